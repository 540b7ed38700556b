-- The first lasso, while lines are stepped.
use Rattle.std.proofs.Common.{◌≡◌, ℕ, ◌+◌, ◌<◌, ◌≤◌, Bool, true, false, List, [], ◌∷◌, ◌++◌, length, map, take, get_or, set, length-set, replicate, Vec, refl, sym, ap, ◌∙◌, arith, subst, inl, inr}
use Rattle.std.specs.BTreeMap.{BTreeMap}
use Rattle.std.proofs.lemmas.Bool.{cases_Bool, cases_lt, false≢true}
use Rattle.std.proofs.lemmas.List.{get_or-map, get_or-replicate, get_or-set_other, get_or-set_same, get_or_append_left, get_or_push, length-map, length-replicate, length_push, map-append}
use Rattle.graph.specs.declared.circuit.Lit.{Lit}
use Rattle.graph.specs.declared.parts.Parts.{Parts}
use Rattle.graph.specs.Circuits.{Valuation, value_of, IsSetWithin, at, next_state, state_of}
use Rattle.simulate.specs.Replays.{Replayed}
use Rattle.stimulus.specs.Shown.{closing_state}
use Rattle.stimulus.proofs.CourseLaws.{Moves, last_snoc}
use Rattle.witness.specs.Cutting.{Closes, EndsFirst}
use Rattle.witness.specs.Lassos.{AreAbove, HasSeen, IsFirstAt, Notes}
use Rattle.witness.proofs.CuttingLaws.{Stepped, Unended, before_more, none_taken, stepped_long, stepped_more, stepped_none, unended_ends}

-- ---- the literals that a time sets

-- of the first k literals those that are set were noted
pub record Noted (wanted : List Lit) (w : Valuation) (passed i : ℕ) (before after : List ℕ) : Type 0 where
  pub long : length after ≡ length before
  pub set : (k : ℕ) (d : Lit) → k < i → value_of w (get_or wanted k d) ≡ true → get_or after k 0 ≡ passed
  pub others : (k : ℕ) (d : Lit) → k < i → value_of w (get_or wanted k d) ≡ false → get_or after k 0 ≡ get_or before k 0
  pub later : (k : ℕ) → i ≤ k → get_or after k 0 ≡ get_or before k 0

pub noted_none : (wanted : List Lit) (w : Valuation) (passed : ℕ) (before : List ℕ) → Noted wanted w passed 0 before before
noted_none wanted w passed before = record { long = refl; set = λ k d k_in. absurd (omega (arith, k_in)); others = λ k d k_in on. refl; later = λ k k_in. refl }

pub noted_set : (wanted : List Lit) (w : Valuation) (passed i : ℕ) (before after : List ℕ) → i < length before → ((d : Lit) → value_of w (get_or wanted i d) ≡ true) →
    Noted wanted w passed i before after → Noted wanted w passed (i + 1) before (set after i passed)
noted_set wanted w passed i before after i_in on h =
    let here : get_or (set after i passed) i 0 ≡ passed = get_or-set_same after i passed 0 (omega (arith, i_in, h.long)) in
    record {
      long = length-set after i passed ∙ h.long;
      set = λ k d k_in v. elim (cases_lt k i) [
        | inl early ↦ get_or-set_other after i k passed 0 (λ e. omega (arith, e, early)) ∙ h.set k d early v
        | inr late ↦ let is_i : k ≡ i = omega (arith, k_in, late) in ap (λ (j : ℕ). get_or (set after i passed) j 0) is_i ∙ here
      ];
      others = λ k d k_in v. elim (cases_lt k i) [
        | inl early ↦ get_or-set_other after i k passed 0 (λ e. omega (arith, e, early)) ∙ h.others k d early v
        | inr late ↦
            let is_i : k ≡ i = omega (arith, k_in, late) in
            absurd (false≢true (sym v ∙ (ap (λ (j : ℕ). value_of w (get_or wanted j d)) is_i ∙ on d)))
      ];
      later = λ k k_in. get_or-set_other after i k passed 0 (λ e. omega (arith, e, k_in)) ∙ h.later k (omega (arith, k_in));
    }

pub noted_kept : (wanted : List Lit) (w : Valuation) (passed i : ℕ) (before after : List ℕ) → ((d : Lit) → value_of w (get_or wanted i d) ≡ false) →
    Noted wanted w passed i before after → Noted wanted w passed (i + 1) before after
noted_kept wanted w passed i before after off h = record {
  long = h.long;
  set = λ k d k_in v. elim (cases_lt k i) [
    | inl early ↦ h.set k d early v
    | inr late ↦
        let is_i : k ≡ i = omega (arith, k_in, late) in
        absurd (false≢true (sym (off d) ∙ (ap (λ (j : ℕ). value_of w (get_or wanted j d)) (sym is_i) ∙ v)))
  ];
  others = λ k d k_in v. elim (cases_lt k i) [ inl early ↦ h.others k d early v | inr late ↦ h.later k late ];
  later = λ k k_in. h.later k (omega (arith, k_in));
}

pub noted_all : (wanted : List Lit) (w : Valuation) (passed i : ℕ) (before after : List ℕ) → i ≡ length wanted → Noted wanted w passed i before after → Notes wanted w passed before after
noted_all wanted w passed i before after is_i h = record {
  long = h.long;
  set = λ k d k_in v. h.set k d (omega (arith, is_i, k_in)) v;
  others = λ k d k_in v. h.others k d (omega (arith, is_i, k_in)) v;
}

-- ---- the literals that were set

-- of each wanted literal, how many times had passed at the last time that sets it
pub record SetTimes (wanted : List Lit) (r : List Valuation) (last : List ℕ) : Type 0 where
  pub long : length last ≡ length wanted
  pub after : (k n : ℕ) (d : Lit) → k < length wanted → n < get_or last k 0 → IsSetWithin r n (length r) (get_or wanted k d)
  pub set : (k n : ℕ) (d : Lit) → k < length wanted → IsSetWithin r n (length r) (get_or wanted k d) → n < get_or last k 0

times_none : (wanted : List Lit) → SetTimes wanted [] (replicate (length wanted) 0)
times_none wanted = record {
  long = length-replicate {A = ℕ} (length wanted) 0;
  after = λ k n d k_in below. absurd (omega (arith, below, get_or-replicate {A = ℕ} (length wanted) k 0 0 k_in));
  set = λ k n d k_in t. absurd (omega (arith, t.2));
}

times_more : (wanted : List Lit) (r : List Valuation) (w : Valuation) (passed : ℕ) (last next : List ℕ) → passed ≡ length r + 1 → Notes wanted w passed last next → SetTimes wanted r last → SetTimes wanted (r ++ w ∷ []) next
times_more wanted r w passed last next is notes h =
    let long = length_push r w in
    let pushed : at (r ++ w ∷ []) (length r) ≡ w = get_or_push r w [] (length r) refl in
    record {
      long = notes.long ∙ h.long;
      after = λ k n d k_in below. elim (cases_Bool (value_of w (get_or wanted k d))) [
        | inl on ↦
            let now = notes.set k d k_in on in
            (length r, omega (arith, below, now, is), omega (arith, long), ap (λ (v : Valuation). value_of v (get_or wanted k d)) pushed ∙ on)
        | inr off ↦
            let t = h.after k n d k_in (omega (arith, below, notes.others k d k_in off)) in
            (t.0, t.1, omega (arith, t.2, long), ap (λ (v : Valuation). value_of v (get_or wanted k d)) (get_or_append_left r (w ∷ []) [] t.0 t.2) ∙ t.3)
      ];
      set = λ k n d k_in t. elim (cases_Bool (value_of w (get_or wanted k d))) [
        | inl on ↦ omega (arith, t.1, t.2, long, is, notes.set k d k_in on)
        | inr off ↦ elim (cases_lt t.0 (length r)) [
          | inl early ↦
              let on : value_of (at r t.0) (get_or wanted k d) ≡ true = sym (ap (λ (v : Valuation). value_of v (get_or wanted k d)) (get_or_append_left r (w ∷ []) [] t.0 early)) ∙ t.3 in
              omega (arith, h.set k n d k_in (t.0, t.1, early, on), notes.others k d k_in off)
          | inr late ↦
              let is_last : t.0 ≡ length r = omega (arith, t.2, late, long) in
              let on : value_of w (get_or wanted k d) ≡ true = sym (ap (λ (v : Valuation). value_of v (get_or wanted k d)) (ap (λ (j : ℕ). at (r ++ w ∷ []) j) is_last ∙ pushed)) ∙ t.3 in
              absurd (false≢true (sym off ∙ on))
        ]
      ];
    }

-- ---- the first time of the closing state is the best

state_at : (m : Parts) (r : List Valuation) (closing : List Bool) (k : ℕ) → k < length r → get_or (map (state_of m) r ++ closing ∷ []) k [] ≡ state_of m (at r k)
state_at m r closing k k_in =
    get_or_append_left (map (state_of m) r) (closing ∷ []) [] k (omega (arith, k_in, length-map r (state_of m))) ∙ get_or-map (state_of m) r k [] [] k_in

lasso_closes : (m : Parts) (wanted : List Lit) (r : List Valuation) (closing : List Bool) (first : ℕ) (last : List ℕ) → closing ≡ closing_state m r → IsFirstAt (map (state_of m) r ++ closing ∷ []) closing first → SetTimes wanted r last →
    first < length r → AreAbove last first → Closes m wanted r
lasso_closes m wanted r closing first last is one times first_in above = (
  first,
  record {
    inside = first_in;
    closes = sym (state_at m r closing first first_in) ∙ (one.here ∙ is);
    sets = λ k d k_in. times.after k first d k_in (above k (omega (arith, k_in, times.long)));
  },
)

lasso_closed : (m : Parts) (wanted : List Lit) (r : List Valuation) (closing : List Bool) (first : ℕ) (last : List ℕ) → closing ≡ closing_state m r → IsFirstAt (map (state_of m) r ++ closing ∷ []) closing first → SetTimes wanted r last →
    Closes m wanted r → (first < length r) × AreAbove last first
lasso_closed m wanted r closing first last is one times lasso =
    let start = lasso.0 in
    let inside = lasso.1.inside in
    let late : first ≤ start = elim (cases_lt start first) [
      | inl early ↦ absurd (one.before start early (state_at m r closing start inside ∙ (lasso.1.closes ∙ sym is)))
      | inr from ↦ from
    ] in (
      omega (arith, late, inside),
      λ k k_in.
          let d : Lit = record { 0 = 0 } in
          let in_wanted : k < length wanted = omega (arith, k_in, times.long) in
          let t = lasso.1.sets k d in_wanted in
          times.set k first d in_wanted (t.0, omega (arith, t.1, late), t.2, t.3),
    )

-- ---- lines that were stepped

-- the first i lines were stepped, with no lasso so far; the states were seen, and of each literal is known when it was last set
pub record Watches {Z : Type 0} (m : Parts) (first : List Bool) (lines : List (List Bool)) (wanted : List Lit) (i : ℕ) (now : Replayed) (seen : BTreeMap (Vec Bool Z) ℕ) (last : List ℕ) : Type 0 where
  pub circuit : now.circuit ≡ m
  pub long : length last ≡ length wanted
  pub valuations : List Valuation
  pub stepped : Stepped m first lines i now valuations
  pub before : (k : ℕ) → 0 < length (take k valuations) → Closes m wanted (take k valuations) → ⊥
  pub states : HasSeen seen (map (state_of m) valuations ++ now.state ∷ [])
  pub times : SetTimes wanted valuations last

pub watches_none : {Z : Type 0} (m : Parts) (lines : List (List Bool)) (wanted : List Lit) (now : Replayed) (seen : BTreeMap (Vec Bool Z) ℕ) (last : List ℕ) → now.circuit ≡ m → HasSeen seen (now.state ∷ []) → last ≡ replicate (length wanted) 0 →
    Watches m now.state lines wanted 0 now seen last
watches_none m lines wanted now seen last is_m states is_last = record {
  circuit = is_m;
  long = ap (λ (xs : List ℕ). length xs) is_last ∙ length-replicate {A = ℕ} (length wanted) 0;
  valuations = [];
  stepped = stepped_none m lines now is_m;
  before = λ k some lasso. absurd (omega (arith, some, none_taken k [] refl));
  states = states;
  times = subst (SetTimes wanted []) (sym is_last) (times_none wanted);
}

pub unended_of : {Z : Type 0} (m : Parts) (first : List Bool) (lines : List (List Bool)) (wanted : List Lit) (i : ℕ) (now : Replayed) (seen : BTreeMap (Vec Bool Z) ℕ) (last : List ℕ) → Watches m first lines wanted i now seen last → Unended (Closes m wanted) m first lines i now
unended_of m first lines wanted i now seen last h = record { valuations = h.valuations; stepped = h.stepped; before = h.before }

-- what a time more is
pub record OneMore {Z : Type 0} (m : Parts) (wanted : List Lit) (r : List Valuation) (w : Valuation) (after : Replayed) (found : ℕ) (seen : BTreeMap (Vec Bool Z) ℕ) (next : List ℕ) : Type 0 where
  pub closing : after.state ≡ closing_state m (r ++ w ∷ [])
  pub states : HasSeen seen (map (state_of m) (r ++ w ∷ []) ++ after.state ∷ [])
  pub one : IsFirstAt (map (state_of m) (r ++ w ∷ []) ++ after.state ∷ []) after.state found
  pub times : SetTimes wanted (r ++ w ∷ []) next

pub one_more : {Z : Type 0} (m : Parts) (first line : List Bool) (lines : List (List Bool)) (wanted : List Lit) (i : ℕ) (now after : Replayed) (w : Valuation) (before seen : BTreeMap (Vec Bool Z) ℕ) (last next : List ℕ) (found : ℕ) →
    i < length lines → (h : Watches m first lines wanted i now before last) → Moves m now.state line after w → Notes wanted w (i + 1) last next →
    HasSeen seen ((map (state_of m) h.valuations ++ now.state ∷ []) ++ after.state ∷ []) × IsFirstAt ((map (state_of m) h.valuations ++ now.state ∷ []) ++ after.state ∷ []) after.state found →
    OneMore m wanted h.valuations w after found seen next
one_more m first line lines wanted i now after w before seen last next found i_in h s notes looked =
    let r = h.valuations in
    let long : length r ≡ i = stepped_long m first lines i now r (omega (arith, i_in)) h.stepped in
    let same : map (state_of m) r ++ now.state ∷ [] ≡ map (state_of m) (r ++ w ∷ []) =
    ap (λ (q : List Bool). map (state_of m) r ++ q ∷ []) (sym s.one.has_state) ∙ sym (map-append (state_of m) r (w ∷ [])) in
    record {
      closing = s.moves ∙ ap (next_state m) (sym (last_snoc r w));
      states = subst (λ (qs : List (List Bool)). HasSeen seen (qs ++ after.state ∷ [])) same looked.0;
      one = subst (λ (qs : List (List Bool)). IsFirstAt (qs ++ after.state ∷ []) after.state found) same looked.1;
      times = times_more wanted r w (i + 1) last next (ap (λ (k : ℕ). k + 1) (sym long)) notes h.times;
    }

-- how many states were seen
pub states_long : {Z : Type 0} (m : Parts) (first : List Bool) (lines : List (List Bool)) (wanted : List Lit) (i : ℕ) (now : Replayed) (seen : BTreeMap (Vec Bool Z) ℕ) (last : List ℕ) → i ≤ length lines →
    (h : Watches m first lines wanted i now seen last) → length (map (state_of m) h.valuations ++ now.state ∷ []) ≡ i + 1
states_long m first lines wanted i now seen last i_in h =
    let r = h.valuations in
    let long : length r ≡ i = stepped_long m first lines i now r i_in h.stepped in
    omega (arith, long, length_push (map (state_of m) r) now.state, length-map r (state_of m))

pub watches_ends : {Z : Type 0} (m : Parts) (first line : List Bool) (lines : List (List Bool)) (wanted : List Lit) (i : ℕ) (now after : Replayed) (w : Valuation) (before seen : BTreeMap (Vec Bool Z) ℕ) (last next : List ℕ) (found : ℕ) →
    i < length lines → get_or lines i [] ≡ line → (h : Watches m first lines wanted i now before last) → Moves m now.state line after w → OneMore m wanted h.valuations w after found seen next →
    (found < i + 1) × AreAbove next found → EndsFirst (Closes m wanted) m first lines (i + 1)
watches_ends m first line lines wanted i now after w before seen last next found i_in is_line h s more closes =
    let r = h.valuations in
    let long : length r ≡ i = stepped_long m first lines i now r (omega (arith, i_in)) h.stepped in
    unended_ends (Closes m wanted) m first line lines i now after w i_in is_line (record { valuations = r; stepped = h.stepped; before = h.before }) s
    (lasso_closes m wanted (r ++ w ∷ []) after.state found next more.closing more.one more.times (omega (arith, closes.0, long, length_push r w)) closes.1)

pub watches_more : {Z : Type 0} (m : Parts) (first line : List Bool) (lines : List (List Bool)) (wanted : List Lit) (i : ℕ) (now after : Replayed) (w : Valuation) (before seen : BTreeMap (Vec Bool Z) ℕ) (last next : List ℕ) (found : ℕ) →
    i < length lines → get_or lines i [] ≡ line → (h : Watches m first lines wanted i now before last) → Moves m now.state line after w → OneMore m wanted h.valuations w after found seen next →
    ((found < i + 1) × AreAbove next found → ⊥) → Watches m first lines wanted (i + 1) after seen next
watches_more m first line lines wanted i now after w before seen last next found i_in is_line h s more open_ =
    let r = h.valuations in
    let long : length r ≡ i = stepped_long m first lines i now r (omega (arith, i_in)) h.stepped in
    record {
      circuit = s.circuit;
      long = more.times.long;
      valuations = r ++ w ∷ [];
      stepped = stepped_more m first line lines i now after r w i_in is_line h.stepped s;
      before = before_more (Closes m wanted) r w h.before (λ lasso.
          let closed = lasso_closed m wanted (r ++ w ∷ []) after.state found next more.closing more.one more.times lasso in
          open_ (omega (arith, closed.0, long, length_push r w), closed.1));
      states = more.states;
      times = more.times;
    }
