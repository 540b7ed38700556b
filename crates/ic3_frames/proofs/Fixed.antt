-- A frame at whose level no clause ends is an invariant.
use Rattle.std.proofs.Common.{◌≡◌, ◌≢◌, ℕ, zero, suc, ◌+◌, ◌*◌, ◌<◌, ◌≤◌, Bool, true, false, not, inl, inr, List, [], ◌∷◌, map, get_or, filter, ltb, refl, sym, ◌∙◌, ap, subst, arith, All, Contains, ℤ, pos, negsuc, unsigned_abs}
use Rattle.std.proofs.lemmas.Bool.{cases_lt, lt-ltb, le-ltb, ltb-true, false≢true}
use Rattle.std.proofs.lemmas.List.Elements.{All-nil, All-cons, All-map, All-contains, All-weaker, All-filter, All-contains_itself, filter_passes, Contains-append_right}
use Rattle.graph.specs.declared.circuit.Lit.{Lit}
use Rattle.graph.specs.declared.parts.Parts.{Parts}
use Rattle.graph.specs.Circuits.{value_of, state_of, next_state}
use Rattle.graph.specs.WellFormed.{IsWellFormed}
use Rattle.graph.proofs.Evaluation.{All-unmap}
use Rattle.lrat.specs.Literals.{is_true, IsSatisfied}
use Rattle.cnf.specs.Clauses.{truth_clause, init_clauses, step_clauses, bad_clauses}
use Rattle.cnf.specs.Formulas.{IsOverLatches, IsClause, IsOfTimes, IsOver, IsInRange, bad_literal}
use Rattle.cnf.specs.Meaning.{extension_of, AreSatisfied, HoldsClause, IsKept}
use Rattle.cnf.specs.Invariants.{AreContradictory, IsProper, IsInvariant}
use Rattle.cnf.proofs.CaseLaws.{init_law, step_law, bad_law, bad_in_range}
use Rattle.cnf.proofs.Formed.{IsKnown, bad_known, init_over, step_over, bad_over}
use Rattle.cnf.proofs.Listed.{satisfied-unit}
use Rattle.states.specs.declared.state_lit.StateLit.{StateLit}
use Rattle.states.specs.States.{Holds, IsTime}
use Rattle.states.proofs.Valued.{valuation_of, valuation_is, same_seen, pos_true}
use Rattle.ic3_frames.specs.declared.frames.Entry.{Entry}
use Rattle.ic3_frames.specs.Frames.{IsStateClause, InFrame, HoldsInitially, AreFrames, Levels}
use Rattle.ic3_frames.specs.Clauses.{clauses_above, invariant_above}
use Rattle.ic3_frames.proofs.Laws.{onward_from, next_frame}
use Rattle.ic3_frames.proofs.Translated.{translated, over_latches, holds_from, denies_now, denies_after, proper, is_clause}

-- a literal is as true where its variable has the same value
same_true : (u v : ℕ → Bool) (l : ℤ) → u (unsigned_abs l) ≡ v (unsigned_abs l) → is_true u l ≡ is_true v l
same_true u v (pos zero) e = refl
same_true u v (pos (suc n)) e = e
same_true u v (negsuc n) e = ap not e

-- what satisfies a formula of one time has the truth on
truth_on : (m : Parts) (v : ℕ → Bool) (cs : List (List ℤ)) → IsOver m 1 cs → AreSatisfied v cs → v (0 + m.max_var + 1) ≡ true
truth_on m v cs over all =
    let none : 0 * (m.max_var + 1) ≡ 0 = omega arith in
    sym (pos_true v (0 + m.max_var + 1) (λ e. omega (arith, e)))
    ∙ satisfied-unit v (pos (0 + m.max_var + 1))
    (All-contains (IsSatisfied v) cs (truth_clause m.max_var 0) all (subst (λ o. Contains cs (truth_clause m.max_var o)) none (over.truths 0 (omega arith))))

same_there : (m : Parts) (v : ℕ → Bool) (u : ℕ) → IsWellFormed m → v (0 + m.max_var + 1) ≡ true → IsOfTimes m 1 u → extension_of (valuation_of m v) u ≡ v u
same_there m v u well on (t, k, t_in, is, which) =
    let seen = same_seen m v well on in
    let first : t ≡ 0 = omega arith in
    let none : 0 * (m.max_var + 1) + k ≡ k = omega arith in
    let here : u ≡ k = is ∙ ap (λ s. s * (m.max_var + 1) + k) first ∙ none in
    elim which [
      | inl top ↦
          let at : 0 + m.max_var + 1 ≡ u = omega (arith, here, top) in
          subst (λ x. extension_of (valuation_of m v) x ≡ v x) at seen.top
      | inr found ↦
          let at : 0 + k ≡ u = omega (arith, here) in
          subst (λ x. extension_of (valuation_of m v) x ≡ v x) at (seen.inside k found)
    ]

-- an assignment that satisfies a formula of one time, as a valuation
as_valuation : (m : Parts) (v : ℕ → Bool) (cs : List (List ℤ)) → IsWellFormed m → IsOver m 1 cs → AreSatisfied v cs → AreSatisfied (extension_of (valuation_of m v)) cs
as_valuation m v cs well over all k d k_in =
    let on = truth_on m v cs over all in
    let one : IsSatisfied v (get_or cs k d) = all k d k_in in
    let from : IsOfTimes m 1 (unsigned_abs one.0) = All-contains (λ l. IsOfTimes m 1 (unsigned_abs l)) (get_or cs k d) one.0 (over.defined_only k d k_in) one.1 in
    (one.0, one.1, same_true (extension_of (valuation_of m v)) v one.0 (same_there m v (unsigned_abs one.0) well on from) ∙ one.2)

-- the clause is that of an entry above the level
abbrev IsAbove : List Entry → ℕ → List StateLit → Type 0
IsAbove es k c = (e : Entry) × Contains es e × (e.clause ≡ c) × (k < e.level)

pub only_above : (es : List Entry) (k : ℕ) → All (IsAbove es k) (clauses_above es k)
only_above es k =
    let passes : Entry → Bool = λ e. ltb k e.level in
    All-map (IsAbove es k) (λ (e : Entry). e.clause) (filter passes es)
    (λ i d i_in. let e : Entry = get_or (filter passes es) i d in
    (e, All-filter passes (Contains es) es (All-contains_itself es) i d i_in, refl, ltb-true k e.level (filter_passes passes es i d i_in)))

Contains-cons : {X : Type 0} (y : X) (xs : List X) (x : X) → Contains xs x → Contains (y ∷ xs) x
Contains-cons y xs x found = Contains-append_right (y ∷ []) xs x found

pub each_above : (es : List Entry) (k : ℕ) (s : List Bool) → All (Holds s) (clauses_above es k) → InFrame es (k + 1) s
each_above [] k s hold = All-nil _
each_above (e ∷ es) k s hold = elim (cases_lt k e.level) [
  | inl above ↦
      let both : All (Holds s) (e.clause ∷ clauses_above es k) = rw (lt-ltb k e.level above) at hold in
      All-cons (λ (x : Entry). k + 1 ≤ x.level → Holds s x.clause) e es (λ _. both 0 e.clause (omega arith))
      (each_above es k s (λ i d i_in. both (suc i) d (omega arith)))
  | inr below ↦
      let rest : All (Holds s) (clauses_above es k) = rw (le-ltb k e.level below) at hold in
      All-cons (λ (x : Entry). k + 1 ≤ x.level → Holds s x.clause) e es (λ level. absurd (omega arith)) (each_above es k s rest)
]

-- what the clauses of the frame above the level are
record AreFixed (m : Parts) (bad : Lit) (cs : List (List StateLit)) : Type 0 where
  clauses : All (IsStateClause m) cs
  initial : All (HoldsInitially m) cs
  onward : (w : List Bool) → IsTime m w → All (Holds (state_of m w)) cs → All (Holds (next_state m w)) cs
  excluded : (w : List Bool) → IsTime m w → All (Holds (state_of m w)) cs → value_of w bad ≡ false

-- a law of each entry is one of each clause above
of_entries : (P : List StateLit → Type 0) (es : List Entry) (k : ℕ) → All (λ e. P e.clause) es → All P (clauses_above es k)
of_entries P es k all = All-weaker (IsAbove es k) P (λ c h. subst P h.2 (All-contains (λ (e : Entry). P e.clause) es h.0 all h.1)) (clauses_above es k) (only_above es k)

fixed : (m : Parts) (bad : Lit) (f : Levels) (k : ℕ) → AreFrames m bad f → k < f.top → All (λ e. e.level ≢ k) f.entries → AreFixed m bad (clauses_above f.entries k)
fixed m bad f k frames k_in none =
    let es : List Entry = f.entries in
    let cs : List (List StateLit) = clauses_above es k in
    let back : (w : List Bool) → All (Holds (state_of m w)) cs → InFrame es k (state_of m w) = λ w hold. next_frame es k none (state_of m w) (each_above es k (state_of m w) hold) in
    record {
      clauses = of_entries (IsStateClause m) es k frames.clauses;
      initial = of_entries (HoldsInitially m) es k frames.initial;
      onward = λ w is_time hold. All-weaker (IsAbove es k) (Holds (next_state m w))
          (λ c h. subst (Holds (next_state m w)) h.2 (onward_from m bad f k h.0 frames h.1 (let above : k + 1 ≤ h.0.level = (let over : k < h.0.level = h.3 in omega (arith, over)) in above) w is_time (back w hold)))
          cs
          (only_above es k);
      excluded = λ w is_time hold. frames.excluded k k_in w is_time (back w hold);
    }

-- what a valuation that keeps the translated clauses says
hold_now : (m : Parts) (w : List Bool) (cs : List (List StateLit)) → IsWellFormed m → All (IsStateClause m) cs → IsKept m (map (translated m) cs) w → All (Holds (state_of m w)) cs
hold_now m w cs well clauses kept k d k_in =
    holds_from m w (get_or cs k d) well (clauses k d k_in) (All-unmap (HoldsClause w) (translated m) cs kept.holds k d k_in)

time_kept : (m : Parts) (w : List Bool) (inv : List (List Lit)) → IsKept m inv w → IsTime m w
time_kept m w inv kept = record { agrees = kept.agrees; keeps = kept.keeps }

all_over : (m : Parts) (cs : List (List StateLit)) → IsWellFormed m → All (IsStateClause m) cs → All (IsOverLatches m) (map (translated m) cs)
all_over m cs well clauses = All-map (IsOverLatches m) (translated m) cs (λ k d k_in. over_latches m (get_or cs k d) well (clauses k d k_in))

are_clauses : (m : Parts) (cs : List (List StateLit)) → IsWellFormed m → All (IsStateClause m) cs → All (IsClause m) (map (translated m) cs)
are_clauses m cs well clauses = All-map (IsClause m) (translated m) cs (λ k d k_in. is_clause m (get_or cs k d) well (clauses k d k_in))

-- the three kinds of cases
begins : (m : Parts) (c : List StateLit) → IsWellFormed m → IsStateClause m c → HoldsInitially m c → AreContradictory (init_clauses m (translated m c))
begins m c well clause initial v sat =
    let w : List Bool = valuation_of m v in
    let over = over_latches m c well clause in
    let says = (init_law m (translated m c) well over w (valuation_is m v well)).1 (as_valuation m v (init_clauses m (translated m c)) well (init_over m (translated m c) over) sat) in
    denies_now m w c well clause says.1 (initial w says.0)

goes_on : (m : Parts) (cs : List (List StateLit)) (c : List StateLit) → IsWellFormed m → All (IsStateClause m) cs → IsStateClause m c →
    ((w : List Bool) → IsTime m w → All (Holds (state_of m w)) cs → Holds (next_state m w) c) → AreContradictory (step_clauses m (map (translated m) cs) (translated m c))
goes_on m cs c well clauses clause onward v sat =
    let w : List Bool = valuation_of m v in
    let inv : List (List Lit) = map (translated m) cs in
    let over = over_latches m c well clause in
    let says = (step_law m inv (translated m c) well (all_over m cs well clauses) over w (valuation_is m v well)).1
    (as_valuation m v (step_clauses m inv (translated m c)) well (step_over m inv (translated m c) well (are_clauses m cs well clauses) over) sat) in
    denies_after m w c well clause says.1 (onward w (time_kept m w inv says.0) (hold_now m w cs well clauses says.0))

-- the bad literal, which is the constant where there is none
bad_of : (P : Lit → Type 0) (bads : List Lit) → All P bads → P (record { 0 = 0 }) → P (get_or bads 0 (record { 0 = 0 }))
bad_of P [] all none = none
bad_of P (a ∷ bads) all none = all 0 (record { 0 = 0 }) (omega arith)

excludes : (m : Parts) (cs : List (List StateLit)) → IsWellFormed m → All (IsStateClause m) cs →
    ((w : List Bool) → IsTime m w → All (Holds (state_of m w)) cs → value_of w (bad_literal m 0) ≡ false) → AreContradictory (bad_clauses m (map (translated m) cs) (bad_literal m 0))
excludes m cs well clauses excluded v sat =
    let w : List Bool = valuation_of m v in
    let inv : List (List Lit) = map (translated m) cs in
    let a : Lit = bad_literal m 0 in
    let known : IsKnown m a = bad_of (IsKnown m) m.bad (bad_known m well) (inl refl) in
    let range : IsInRange m.max_var a = bad_of (IsInRange m.max_var) m.bad (bad_in_range m well) (omega arith) in
    let says = (bad_law m inv a well (all_over m cs well clauses) range w (valuation_is m v well)).1
    (as_valuation m v (bad_clauses m inv a) well (bad_over m inv a well (are_clauses m cs well clauses) known) sat) in
    false≢true (sym (excluded w (time_kept m w inv says.0) (hold_now m w cs well clauses says.0)) ∙ says.1)

pub is_invariant : (m : Parts) (f : Levels) (k : ℕ) (inv : List (List Lit)) → IsWellFormed m → AreFrames m (bad_literal m 0) f → k < f.top → All (λ e. e.level ≢ k) f.entries →
    inv ≡ invariant_above m.latches f.entries k → IsInvariant m inv
is_invariant m f k inv well frames k_in none is =
    let cs : List (List StateLit) = clauses_above f.entries k in
    let laws = fixed m (bad_literal m 0) f k frames k_in none in
    subst (IsInvariant m) (sym is) (record {
      clauses = All-map (IsProper m) (translated m) cs (λ i d i_in. proper m (get_or cs i d) well (laws.clauses i d i_in));
      inductive = record {
        begins = All-map (λ c. AreContradictory (init_clauses m c)) (translated m) cs (λ i d i_in. begins m (get_or cs i d) well (laws.clauses i d i_in) (laws.initial i d i_in));
        goes_on = All-map (λ c. AreContradictory (step_clauses m (map (translated m) cs) c)) (translated m) cs
            (λ i d i_in. goes_on m cs (get_or cs i d) well laws.clauses (laws.clauses i d i_in) (λ w is_time hold. laws.onward w is_time hold i d i_in));
        excludes = excludes m cs well laws.clauses laws.excluded;
      };
    })
