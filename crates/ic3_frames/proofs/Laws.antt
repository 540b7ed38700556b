-- What is done to frames keeps their laws.
use Rattle.std.proofs.Common.{◌≡◌, ℕ, Some, ◌+◌, ◌-◌, ◌<◌, ◌≤◌, ◌≢◌, ◌⊎◌, Bool, List, length, get_or, set, refl, inl, inr, arith, All, Contains, ◌∙◌, sym, ap, subst}
use Rattle.std.proofs.lemmas.List.Elements.{All-weaker, All-contains, Contains-get_or}
use Rattle.std.proofs.lemmas.Bool.{cases_lt}
use Rattle.std.proofs.lemmas.Grind.{get_or-set_at}
use Rattle.std.proofs.lemmas.List.{get_or_default, get_or-set_same, get_or-set_other, length-set}
use Rattle.graph.specs.declared.circuit.Lit.{Lit}
use Rattle.graph.specs.declared.parts.Parts.{Parts}
use Rattle.graph.specs.Circuits.{state_of}
use Rattle.states.specs.declared.state_lit.StateLit.{StateLit}
use Rattle.states.specs.States.{Holds, IsPartOf}
use Rattle.ic3_frames.specs.declared.frames.Entry.{Entry}
use Rattle.ic3_frames.specs.Frames.{IsStateClause, InFrame, HoldsInitially, HoldsAfter, HoldsOnward, Excludes, IsFalseAfter, AreFrames, AreWithin, Levels, IsSubsumed, IsNotSubsumed, IsExcepted, IsAdded}
use Rattle.ic3_frames.proofs.Sifting.{one_place}

pub same_or_not : (a b : ℕ) → (a ≡ b) ⊎ (a ≢ b)
same_or_not a b = elim (cases_lt a b) [
  | inl below ↦ inr (λ e. omega arith)
  | inr above ↦ elim (cases_lt b a) [ inl over ↦ inr (λ e. omega arith) | inr below ↦ inl (omega arith) ]
]

abbrev pub levels : List Entry → ℕ → List (List StateLit) → Levels
levels es top failed = record { entries = es; top = top; failed = failed }

-- smaller frames keep the laws of the clauses that are in both, and exclude what was excluded
after_within : (m : Parts) (es fs : List Entry) (k : ℕ) (c : List StateLit) → AreWithin es fs → HoldsAfter m fs k c → HoldsAfter m es k c
after_within m es fs k c within h w is_time in_frame = h w is_time (within k (state_of m w) in_frame)

excludes_within : (m : Parts) (bad : Lit) (es fs : List Entry) (k : ℕ) → AreWithin es fs → Excludes m bad fs k → Excludes m bad es k
excludes_within m bad es fs k within h w is_time in_frame = h w is_time (within k (state_of m w) in_frame)

reached_within : (m : Parts) (es fs : List Entry) (e : Entry) → AreWithin es fs → ((k : ℕ) → e.level ≡ k + 1 → HoldsAfter m fs k e.clause) → (k : ℕ) → e.level ≡ k + 1 →
    HoldsAfter m es k e.clause
reached_within m es fs e within h k is = after_within m es fs k e.clause within (h k is)

holds_more : (s : List Bool) (c d : List StateLit) → IsPartOf c d → Holds s c → Holds s d
holds_more s c d part (a, found, set) = (a, part a found, set)

-- one clause more makes the frames smaller
pub within_added : (es fs : List Entry) (e : Entry) → IsAdded es fs e → AreWithin fs es
within_added es fs e added k s in_frame i d i_in below = elim (added.each i d i_in) [
  | inl kept ↦ All-contains (λ (x : Entry). k ≤ x.level → Holds s x.clause) fs (get_or es i d) in_frame kept below
  | inr subsumption ↦
      let above : k ≤ e.level = omega (arith, below, subsumption.0) in
      holds_more s e.clause (get_or es i d).clause subsumption.1 (All-contains (λ (x : Entry). k ≤ x.level → Holds s x.clause) fs e in_frame added.newest above)
]

-- what holds of the old entries and of the new one holds of all
All-added : (P : Entry → Type 0) (es fs : List Entry) (e : Entry) → IsAdded es fs e → All P es → P e → All P fs
All-added P es fs e added all p k d k_in = elim (added.only (get_or fs k d) (Contains-get_or fs k d k_in)) [
  | inl old ↦ All-contains P es (get_or fs k d) all old
  | inr new ↦ subst P (sym new) p
]

-- a clause that is onward from frame k joins frame k + 1 and those before it
pub added : (m : Parts) (bad : Lit) (es fs : List Entry) (top : ℕ) (failed : List (List StateLit)) (k : ℕ) (e : Entry) → IsAdded es fs e → AreFrames m bad (levels es top failed) → e.level ≡ k + 1 → IsStateClause m e.clause →
    HoldsInitially m e.clause → HoldsOnward m es k e.clause → AreFrames m bad (levels fs top failed)
added m bad es fs top failed k e is_added frames is clause first onward =
    let within : AreWithin fs es = within_added es fs e is_added in
    record {
      clauses = All-added (λ (x : Entry). IsStateClause m x.clause) es fs e is_added frames.clauses clause;
      initial = All-added (λ (x : Entry). HoldsInitially m x.clause) es fs e is_added frames.initial first;
      reached = All-added (λ (x : Entry). (j : ℕ) → x.level ≡ j + 1 → HoldsAfter m fs j x.clause) es fs e is_added
          (All-weaker _ _ (λ x h. reached_within m fs es x within h) es frames.reached)
          (λ j at w is_time in_frame.
          let same : j ≡ k = omega (arith, at, is) in
          let here : InFrame fs k (state_of m w) = subst (λ i. InFrame fs i (state_of m w)) same in_frame in
          let below : k ≤ e.level = omega (arith, is) in
          onward w is_time (within k (state_of m w) here) (All-contains (λ (x : Entry). k ≤ x.level → Holds (state_of m w) x.clause) fs e here is_added.newest below));
      excluded = λ j j_in. excludes_within m bad fs es j within (frames.excluded j j_in);
      failed = frames.failed;
    }

-- the last frame excludes the bad literal, so that the next is opened
opened : (m : Parts) (bad : Lit) (es : List Entry) (top : ℕ) (failed fewer : List (List StateLit)) → All (Contains failed) fewer → AreFrames m bad (levels es top failed) → Excludes m bad es top →
    AreFrames m bad (levels es (top + 1) fewer)
opened m bad es top failed fewer within frames out = record {
  clauses = frames.clauses;
  initial = frames.initial;
  reached = frames.reached;
  excluded = λ k k_in. elim (cases_lt k top) [
    | inl below ↦ frames.excluded k below
    | inr above ↦ let same : k ≡ top = omega arith in subst (Excludes m bad es) (sym same) out
  ];
  failed = λ k c k_in. All-contains (IsFalseAfter m) failed (get_or fewer k c) frames.failed (within k c k_in);
}

-- a clause that is false after a step could not be pushed
noted : (m : Parts) (bad : Lit) (es : List Entry) (top : ℕ) (failed more : List (List StateLit)) (c : List StateLit) → All (λ x. Contains failed x ⊎ (x ≡ c)) more → AreFrames m bad (levels es top failed) →
    IsFalseAfter m c → AreFrames m bad (levels es top more)
noted m bad es top failed more c within frames after = record {
  clauses = frames.clauses;
  initial = frames.initial;
  reached = frames.reached;
  excluded = frames.excluded;
  failed = λ k d k_in. elim (within k d k_in) [
    | inl before ↦ All-contains (IsFalseAfter m) failed (get_or more k d) frames.failed before
    | inr new ↦ subst (IsFalseAfter m) (sym new) after
  ];
}

-- the entry at a place, propagated to the next level
abbrev pub next_level : List Entry → ℕ → Entry → Entry
next_level es i d = record { clause = (get_or es i d).clause; level = (get_or es i d).level + 1 }

-- what is in a list with one entry changed is that entry or was there
of_changed : (es : List Entry) (i : ℕ) (e x : Entry) → i < length es → Contains (set es i e) x → Contains es x ⊎ (x ≡ e)
of_changed es i e x i_in found =
    let at : get_or (set es i e) found.0 x ≡ x = found.2 in
    elim (same_or_not found.0 i) [
      | inl here ↦ inr (sym at ∙ get_or-set_at es i found.0 e x here i_in)
      | inr apart ↦ inl (found.0, omega (arith, found.1, length-set es i e), sym (get_or-set_other es i found.0 e x apart) ∙ at)
    ]

raised_among : (es fs : List Entry) (i p : ℕ) (e : Entry) → i < length es → (get_or es i e).clause ≡ e.clause → (get_or es i e).level ≤ e.level → All (Contains (set es i e)) fs →
    All (λ x. Contains fs x ⊎ IsSubsumed e.clause e.level x) (set es i e) → All (λ x. IsNotSubsumed e.clause e.level x ⊎ IsExcepted (set es i e) (Some i) x) fs → p < length fs →
    get_or fs p e ≡ get_or (set es i e) i e → IsAdded es fs e
raised_among es fs i p e i_in same above only each lean p_in at =
    let Is : Entry → Type 0 = λ x. Contains fs x ⊎ IsSubsumed e.clause e.level x in
    let old : IsSubsumed e.clause e.level (get_or es i e) = (above, λ a found. subst (λ c. Contains c a) (sym same) found) in
    record {
      newest = (p, p_in, at ∙ get_or-set_same es i e e i_in);
      only = λ x found. of_changed es i e x i_in (All-contains (Contains (set es i e)) fs x only found);
      each = λ k x k_in. elim (same_or_not k i) [
        | inl here ↦ inr (subst (IsSubsumed e.clause e.level) (sym (ap (λ n. get_or es n x) here ∙ get_or_default es i x e i_in)) old)
        | inr apart ↦ subst Is (get_or-set_other es i k e x apart) (each k x (omega (arith, k_in, length-set es i e)))
      ];
      lean = λ k x k_in. elim (lean k x k_in) [
        | inl other ↦ inl other
        | inr kept ↦ inr (kept.3 ∙ get_or-set_at es i kept.0 e (get_or fs k x) (one_place kept.0 i (sym kept.1)) i_in)
      ];
    }

-- where the entry at a place is raised and the others that it makes subsumption are dropped, one more is added: the old one is subsumed by it
pub raised_added : (es fs : List Entry) (i p : ℕ) (e : Entry) (c : List StateLit) (level : ℕ) → i < length es → (get_or es i e).clause ≡ e.clause → (get_or es i e).level ≤ e.level →
    c ≡ e.clause → level ≡ e.level → All (Contains (set es i e)) fs → All (λ x. Contains fs x ⊎ IsSubsumed c level x) (set es i e) →
    All (λ x. IsNotSubsumed c level x ⊎ IsExcepted (set es i e) (Some i) x) fs → p < length fs → get_or fs p e ≡ get_or (set es i e) i e → IsAdded es fs e
raised_added es fs i p e c level i_in same above clause_is level_is only each lean p_in at =
    let Each : List StateLit → ℕ → Type 0 = λ cl n. All (λ x. Contains fs x ⊎ IsSubsumed cl n x) (set es i e) in
    let Lean : List StateLit → ℕ → Type 0 = λ cl n. All (λ x. IsNotSubsumed cl n x ⊎ IsExcepted (set es i e) (Some i) x) fs in
    raised_among es fs i p e i_in same above only (subst (Each e.clause) level_is (subst (λ cl. Each cl level) clause_is each)) (subst (Lean e.clause) level_is (subst (λ cl. Lean cl level) clause_is lean)) p_in at

-- the same, of frames before and after
same_frames : (m : Parts) (bad : Lit) (es : List Entry) (top : ℕ) (failed : List (List StateLit)) (g : Levels) → g.entries ≡ es → g.top ≡ top → g.failed ≡ failed → AreFrames m bad (levels es top failed) → AreFrames m bad g
same_frames m bad es top failed g are is same h =
    subst (λ cs. AreFrames m bad (levels g.entries g.top cs)) (sym same) (subst (λ n. AreFrames m bad (levels g.entries n failed)) (sym is) (subst (λ xs. AreFrames m bad (levels xs top failed)) (sym are) h))

pub added_to : (m : Parts) (bad : Lit) (f g : Levels) (k : ℕ) (e : Entry) → IsAdded f.entries g.entries e → g.top ≡ f.top → g.failed ≡ f.failed → AreFrames m bad f → e.level ≡ k + 1 →
    IsStateClause m e.clause → HoldsInitially m e.clause → HoldsOnward m f.entries k e.clause → AreFrames m bad g
added_to m bad f g k e is_added top same frames is clause first onward =
    same_frames m bad g.entries f.top f.failed g refl top same (added m bad f.entries g.entries f.top f.failed k e is_added frames is clause first onward)

pub opened_to : (m : Parts) (bad : Lit) (f g : Levels) → g.entries ≡ f.entries → g.top ≡ f.top + 1 → All (Contains f.failed) g.failed → AreFrames m bad f → Excludes m bad f.entries f.top → AreFrames m bad g
opened_to m bad f g are top within frames out = same_frames m bad f.entries (f.top + 1) g.failed g are top refl (opened m bad f.entries f.top f.failed g.failed within frames out)

pub noted_to : (m : Parts) (bad : Lit) (f g : Levels) (c : List StateLit) → g.entries ≡ f.entries → g.top ≡ f.top → All (λ x. Contains f.failed x ⊎ (x ≡ c)) g.failed → AreFrames m bad f → IsFalseAfter m c → AreFrames m bad g
noted_to m bad f g c are top within frames after = same_frames m bad f.entries f.top g.failed g are top refl (noted m bad f.entries f.top f.failed g.failed c within frames after)

-- a clause that still holds after the frame at its level joins the next frame
pub raised_to : (m : Parts) (bad : Lit) (f g : Levels) (k i : ℕ) (d : Entry) → i < length f.entries → IsAdded f.entries g.entries (next_level f.entries i d) → g.top ≡ f.top → g.failed ≡ f.failed →
    AreFrames m bad f → (get_or f.entries i d).level ≡ k → HoldsAfter m f.entries k (get_or f.entries i d).clause → AreFrames m bad g
raised_to m bad f g k i d i_in is_added top same frames at after =
    added_to m bad f g k (next_level f.entries i d) is_added top same frames (ap (λ n. n + 1) at) (frames.clauses i d i_in) (frames.initial i d i_in) (λ w is_time in_frame _. after w is_time in_frame)

-- a frame contains the frames before
frame_after : (es : List Entry) (j k : ℕ) (s : List Bool) → j ≤ k → InFrame es j s → InFrame es k s
frame_after es j k s before in_frame i d i_in below = in_frame i d i_in (omega arith)

-- what a kept step reaches from frame k is in each frame up to k + 1: a clause of level k + 1 or above holds there
pub onward_from : (m : Parts) (bad : Lit) (f : Levels) (k : ℕ) (e : Entry) → AreFrames m bad f → Contains f.entries e → k + 1 ≤ e.level → HoldsAfter m f.entries k e.clause
onward_from m bad f k e frames among above w is_time in_frame =
    let level : e.level ≡ e.level - 1 + 1 = omega arith in
    All-contains (λ (x : Entry). (j : ℕ) → x.level ≡ j + 1 → HoldsAfter m f.entries j x.clause) f.entries e frames.reached among (e.level - 1) level w is_time
    (frame_after f.entries k (e.level - 1) (state_of m w) (omega arith) in_frame)

-- where no clause ends at a level, its frame is the next
pub next_frame : (es : List Entry) (k : ℕ) → All (λ e. e.level ≢ k) es → (s : List Bool) → InFrame es (k + 1) s → InFrame es k s
next_frame es k none s in_frame i d i_in below = elim (cases_lt k (get_or es i d).level) [
  | inl above ↦ in_frame i d i_in (omega arith)
  | inr at ↦ absurd (none i d i_in (omega arith))
]
