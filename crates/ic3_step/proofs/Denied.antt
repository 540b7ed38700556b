-- From a reply about the denials of a clause to what holds after a step.
use Rattle.std.proofs.Common.{◌≡◌, ℕ, suc, ◌+◌, ◌-◌, ◌/◌, ◌%◌, ◌*◌, ◌<◌, ◌≤◌, ◌⊎◌, Bool, true, false, not, List, [], ◌∷◌, ◌++◌, length, map, get_or, take, refl, inl, inr, arith, All, Contains, ◌∙◌, sym, ap, subst}
use Rattle.std.proofs.lemmas.Bool.{cases_eq, eq-eqb, ne_eqb}
use Rattle.std.proofs.lemmas.List.Elements.{All-contains, All-cons, All-nil, All-map, All-append, Contains-get_or, Contains-push, Contains-push_cases, Contains-append_left}
use Rattle.std.proofs.lemmas.List.{take_more, get_or-map, length-map}
use Rattle.std.specs.List.Sorted.{IsPermutation}
use Rattle.std.proofs.lemmas.List.Sorted.{All-permutation, Contains-permutation, IsPermutation-sym}
use Rattle.base.specs.Budget.{Steps}
use Rattle.graph.specs.declared.circuit.Lit.{Lit}
use Rattle.graph.specs.declared.circuit.Latch.{Latch}
use Rattle.graph.specs.declared.parts.Parts.{Parts}
use Rattle.graph.specs.Circuits.{variable, place, value_of, defined, next_state}
use Rattle.graph.specs.WellFormed.{IsWellFormed}
use Rattle.graph.proofs.Tabled.{holds_of_used}
use Rattle.graph.proofs.Evaluation.{All-left, All-right, All-unmap}
use Rattle.cones.specs.Marks.{IsMarked}
use Rattle.cnf.specs.Clauses.{along}
use Rattle.cnf.proofs.Formed.{IsKnown}
use Rattle.cnf.proofs.Values.{turned}
use Rattle.states.specs.declared.state_lit.StateLit.{StateLit}
use Rattle.ic3_step.specs.declared.assignment.Assignment.{Assignment}
use Rattle.ic3_step.specs.declared.reply.Reply.TheVariants.{Found, Core}
use Rattle.ic3_step.specs.declared.step.Consecution.{Consecution}
use Rattle.ic3_step.specs.declared.step.Consecution.TheVariants.{Held, Broken, Spent}
use Rattle.states.specs.States.{latch_at, IsSet, Holds, Denies, IsPartOf}
use Rattle.ic3_step.specs.States.{Guarded, AllSet, IsAt}
use Rattle.ic3_step.specs.Replies.{IsReply}
use Rattle.ic3_step.specs.Steps.{IsConsecution, HasNeeded, denial, next_literal}
use Rattle.states.proofs.Defaults.{no_latch, no_state_lit}
use Rattle.ic3_step.proofs.Latched.{from_map}

same_bool : (x y : Bool) → (x ≡ y) ⊎ (x ≡ y → ⊥)
same_bool true true = inl refl
same_bool true false = inr (λ e. cc)
same_bool false true = inr (λ e. cc)
same_bool false false = inl refl

turned_true : (x y : Bool) → (x ≡ y → ⊥) → turned y x ≡ true
turned_true true true h = absurd (h refl)
turned_true true false h = refl
turned_true false true h = refl
turned_true false false h = absurd (h refl)

turned_apart : (x y : Bool) → turned y x ≡ true → x ≡ y → ⊥
turned_apart true true e h = cc
turned_apart true false e h = cc
turned_apart false true e h = cc
turned_apart false false e h = cc

twice : (b : Bool) → b ≡ not (not b)
twice true = refl
twice false = refl

-- the value of a negated literal
value_along : (w : List Bool) (b : Bool) (a : Lit) → value_of w (along b a) ≡ turned b (value_of w a)
value_along w false a = refl
value_along w true a = elim (cases_eq (a.0 % 2) 1) [
  | inl odd ↦
      let half : (a.0 - 1) / 2 ≡ a.0 / 2 = omega arith in
      let even : (a.0 - 1) % 2 ≡ 0 = omega arith in
      rw (eq-eqb (a.0 % 2) 1 odd, even, half) (twice (place w (a.0 / 2)))
  | inr not_odd ↦
      let half : (a.0 + 1) / 2 ≡ a.0 / 2 = omega arith in
      let odd : (a.0 + 1) % 2 ≡ 1 = omega arith in
      rw (ne_eqb (a.0 % 2) 1 not_odd, odd, half) refl
]

-- the value of a next literal is that of its latch in the next state
value_next : (m : Parts) (w : List Bool) (i : ℕ) → i < length m.latches → value_of w (next_literal m.latches i) ≡ latch_at (next_state m w) i
value_next m w i i_in =
    ap (value_of w) (get_or-map (λ (l : Latch). l.next) m.latches i no_latch (record { 0 = 0 }) i_in)
    ∙ sym (get_or-map (λ (l : Latch). value_of w l.next) m.latches i no_latch false i_in)

value_denial : (m : Parts) (w : List Bool) (a : StateLit) → a.latch < length m.latches → value_of w (denial m.latches a) ≡ turned a.value (latch_at (next_state m w) a.latch)
value_denial m w a a_in = value_along w a.value (next_literal m.latches a.latch) ∙ ap (turned a.value) (value_next m w a.latch a_in)

pub denial_set : (m : Parts) (w : List Bool) (a : StateLit) → a.latch < length m.latches → (IsSet (next_state m w) a → ⊥) → value_of w (denial m.latches a) ≡ true
denial_set m w a a_in unset = value_denial m w a a_in ∙ turned_true (latch_at (next_state m w) a.latch) a.value unset

pub unset_by_denial : (m : Parts) (w : List Bool) (a : StateLit) → a.latch < length m.latches → value_of w (denial m.latches a) ≡ true → IsSet (next_state m w) a → ⊥
unset_by_denial m w a a_in set = turned_apart (latch_at (next_state m w) a.latch) a.value (sym (value_denial m w a a_in) ∙ set)

-- the denials are literals of the circuit
along_known : (m : Parts) (b : Bool) (a : Lit) → IsKnown m a → IsKnown m (along b a)
along_known m false a known = known
along_known m true a known = elim (cases_eq (a.0 % 2) 1) [
  | inl odd ↦ rw (eq-eqb (a.0 % 2) 1 odd) (let e : a.0 / 2 ≡ (a.0 - 1) / 2 = omega arith in subst (λ v. (v ≡ 0) ⊎ Contains (defined m) v) e known)
  | inr even ↦ rw (ne_eqb (a.0 % 2) 1 even) (let e : a.0 / 2 ≡ (a.0 + 1) / 2 = omega arith in subst (λ v. (v ≡ 0) ⊎ Contains (defined m) v) e known)
]

next_known : (m : Parts) (i : ℕ) → IsWellFormed m → i < length m.latches → IsKnown m (next_literal m.latches i)
next_known m i well i_in =
    subst (IsKnown m) (sym (get_or-map (λ (l : Latch). l.next) m.latches i no_latch (record { 0 = 0 }) i_in)) ((holds_of_used (IsKnown m) m well.used_defined).next i no_latch i_in)

pub denials_known : (m : Parts) (clause : List StateLit) (lits : List Lit) → IsWellFormed m → All (λ a. a.latch < length m.latches) clause → lits ≡ map (denial m.latches) clause → All (IsKnown m) lits
denials_known m clause lits well known are = subst (All (IsKnown m)) (sym are)
    (All-map (IsKnown m) (denial m.latches) clause
    (λ k d k_in. along_known m (get_or clause k d).value (next_literal m.latches (get_or clause k d).latch) (next_known m (get_or clause k d).latch well (known k d k_in))))

-- next literals are small enough to be negated
pub nexts_small : (m : Parts) (latches : List Latch) → IsWellFormed m → latches ≡ m.latches → All (λ l. l.next.0 < 4294967295) latches
nexts_small m latches well are = subst (All (λ (l : Latch). l.next.0 < 4294967295)) (sym are)
    (λ k d k_in. let small = well.limits.max_var in let range = (holds_of_used (λ a. a.0 ≤ 2 * m.max_var + 1) m well.used_in_range).next k d k_in in omega (arith, small, range))

-- a clause holds, or each of its literals is denied
holds_or_denied : (s : List Bool) (c : List StateLit) → Holds s c ⊎ Denies s c
holds_or_denied s [] = inr (All-nil _)
holds_or_denied s (a ∷ c) = elim (same_bool (latch_at s a.latch) a.value) [
  | inl set ↦ inl (a, (0, omega arith, refl), set)
  | inr unset ↦ elim (holds_or_denied s c) [
    | inl h ↦ inl (h.0, (suc h.1.0, omega (arith, h.1.1), h.1.2), h.2)
    | inr none ↦ inr (All-cons (λ (x : StateLit). IsSet s x → ⊥) a c unset none)
  ]
]

-- a core among the denials: the part that is needed holds after the step
pub held : (m : Parts) (gs : List Guarded) (guards : List ℕ) (clause part : List StateLit) (lits core : List Lit) (after : Steps)
    → All (λ a. a.latch < length m.latches) clause → lits ≡ map (denial m.latches) clause → IsReply m gs guards lits after (Core core)
    → IsPartOf part clause → HasNeeded m.latches clause core part → IsConsecution m gs guards clause after (Held part)
held m gs guards clause part lits core after known are law among needs = (
  among,
  λ w time holds. elim (holds_or_denied (next_state m w) part) [
    | inl h ↦ h
    | inr denied ↦ absurd (law.1 w time holds (λ k d k_in.
        let l : Lit = get_or core k d in
        let a = from_map (denial m.latches) clause no_state_lit l (subst (λ ls. Contains ls l) are (law.0 k d k_in)) in
        let needed : Contains part a.0 = needs.each a.0 a.1 (subst (Contains core) (sym a.2) (Contains-get_or core k d k_in)) in
        ap (value_of w) (sym a.2)
        ∙ denial_set m w a.0 (All-contains (λ (x : StateLit). x.latch < length m.latches) clause a.0 known a.1)
        (All-contains (λ (x : StateLit). IsSet (next_state m w) x → ⊥) part a.0 denied needed)))
  ],
)

-- a time at which the denials are set breaks the clause
pub broken : (m : Parts) (gs : List Guarded) (guards : List ℕ) (clause : List StateLit) (lits : List Lit) (after : Steps) (t : Assignment)
    → All (λ a. a.latch < length m.latches) clause → lits ≡ map (denial m.latches) clause → IsReply m gs guards lits after (Found t)
    → IsConsecution m gs guards clause after (Broken t)
broken m gs guards clause lits after t known are (w, at, set) = (
  w,
  subst (λ (ls : List Lit). IsAt m ls w t) are at,
  λ k d k_in. unset_by_denial m w (get_or clause k d) (known k d k_in)
      (sym (ap (value_of w) (get_or-map (denial m.latches) clause k d (record { 0 = 0 }) k_in))
      ∙ subst (AllSet w) are set k (record { 0 = 0 }) (omega (arith, length-map clause (denial m.latches)))),
)

-- what is known of a clause is known of it in any order
pub in_any_order : (m : Parts) (gs : List Guarded) (guards : List ℕ) (clause ordered : List StateLit) (after : Steps) (r : Consecution) → IsPermutation clause ordered →
    IsConsecution m gs guards ordered after r → IsConsecution m gs guards clause after r
in_any_order m gs guards clause ordered after (Held part) same law =
    (λ a found. Contains-permutation ordered clause a (IsPermutation-sym clause ordered same) (law.0 a found), law.1)
in_any_order m gs guards clause ordered after (Broken t) same (w, at, denied) =
    let back : IsPermutation ordered clause = IsPermutation-sym clause ordered same in
    let values = at.values in
    let P : Lit → Type 0 = λ a. IsMarked values.cone (variable a) in
    let first : List Lit = map (denial m.latches) ordered in (
      w,
      record {
        is_time = at.is_time;
        state = at.state;
        inputs = at.inputs;
        values = record {
          cone = values.cone;
          closed = values.closed;
          asked = All-append P (map (denial m.latches) clause) m.constraints
              (All-map P (denial m.latches) clause (All-permutation (λ (x : StateLit). P (denial m.latches x)) ordered clause back
              (All-unmap P (denial m.latches) ordered (All-left P first m.constraints values.asked))))
              (All-right P first m.constraints values.asked);
          places = values.places;
          same = values.same;
        };
      },
      All-permutation (λ (x : StateLit). IsSet (next_state m w) x → ⊥) ordered clause back denied,
    )
in_any_order m gs guards clause ordered after Spent same law = law

-- choosing what is needed
pub chosen : (latches : List Latch) (clause : List StateLit) (core : List Lit) (part more : List StateLit) (i : ℕ) (d : StateLit) → i < length clause
    → more ≡ part ++ get_or clause i d ∷ [] → IsPartOf part (take i clause) → HasNeeded latches (take i clause) core part
    → IsPartOf more (take (i + 1) clause) × HasNeeded latches (take (i + 1) clause) core more
chosen latches clause core part more i d i_in are among needs =
    let a : StateLit = get_or clause i d in
    let next : take (i + 1) clause ≡ take i clause ++ a ∷ [] = take_more clause i d i_in in (
      λ b b_in. subst (λ xs. Contains xs b) (sym next) (elim (Contains-push_cases part a b (subst (λ xs. Contains xs b) are b_in)) [
        | inl old ↦ Contains-append_left (take i clause) (a ∷ []) b (among b old)
        | inr new ↦ subst (Contains (take i clause ++ a ∷ [])) new (Contains-push (take i clause) a)
      ]),
      record {
        each = λ b b_in in_core. subst (λ xs. Contains xs b) (sym are) (elim (Contains-push_cases (take i clause) a b (subst (λ xs. Contains xs b) next b_in)) [
          | inl old ↦ Contains-append_left part (a ∷ []) b (needs.each b old in_core)
          | inr new ↦ subst (Contains (part ++ a ∷ [])) new (Contains-push part a)
        ]);
      },
    )

pub passed_over : (latches : List Latch) (clause : List StateLit) (core : List Lit) (part more : List StateLit) (i : ℕ) (d : StateLit) → i < length clause
    → more ≡ part → (Contains core (denial latches (get_or clause i d)) → ⊥) → IsPartOf part (take i clause) → HasNeeded latches (take i clause) core part
    → IsPartOf more (take (i + 1) clause) × HasNeeded latches (take (i + 1) clause) core more
passed_over latches clause core part more i d i_in are out among needs =
    let a : StateLit = get_or clause i d in
    let next : take (i + 1) clause ≡ take i clause ++ a ∷ [] = take_more clause i d i_in in (
      λ b b_in. subst (λ xs. Contains xs b) (sym next) (Contains-append_left (take i clause) (a ∷ []) b (among b (subst (λ xs. Contains xs b) are b_in))),
      record {
        each = λ b b_in in_core. subst (λ xs. Contains xs b) (sym are) (elim (Contains-push_cases (take i clause) a b (subst (λ xs. Contains xs b) next b_in)) [
          | inl old ↦ needs.each b old in_core
          | inr new ↦ absurd (out (subst (λ x. Contains core (denial latches x)) (sym new) in_core))
        ]);
      },
    )
