-- Clauses that hold in every first state.
use Rattle.std.proofs.Common.{◌≡◌, ◌≢◌, ℕ, zero, suc, ◌+◌, ◌/◌, ◌%◌, ◌<◌, ◌≤◌, Bool, true, false, not, inl, inr, List, [], ◌∷◌, All, Contains, refl, subst, arith}
use Rattle.std.specs.Prelude.{flat_map}
use Rattle.std.proofs.lemmas.Bool.{cases_eq, eq-eqb, ne_eqb}
use Rattle.std.proofs.lemmas.List.Elements.{All-contains, All-tail}
use Rattle.graph.specs.declared.circuit.Lit.{Lit}
use Rattle.graph.specs.declared.circuit.Latch.{Latch}
use Rattle.graph.specs.declared.parts.Parts.{Parts}
use Rattle.graph.specs.WellFormed.{IsWellFormed}
use Rattle.graph.proofs.Evaluation.{All-left, All-right, All-unmap, latches_even}
use Rattle.graph.proofs.Shape.{All-unflat_map}
use Rattle.lrat.specs.Literals.{is_true, IsSatisfied}
use Rattle.lrat.specs.Shared.{unit_clauses}
use Rattle.cnf.specs.Clauses.{literal, denial, signed, truth_clause, reset_clauses, start_clauses, init_units, init_clauses}
use Rattle.cnf.specs.Invariants.{AreContradictory}
use Rattle.cnf.proofs.Listed.{satisfied-unit, satisfied-units}
use Rattle.correspondence.specs.Equal.{high_of}

signed_apart : (v : ℕ → Bool) (k : ℕ) → is_true v (signed false k) ≡ true → is_true v (signed true k) ≡ true → ⊥
signed_apart v zero p q = let no : false ≡ true = p in cc no
signed_apart v (suc k) p q = let one : v (suc k) ≡ true = p in let two : not (v (suc k)) ≡ true = q in let no : not true ≡ true = subst (λ b. not b ≡ true) one two in cc no

-- a latch's literal and its denial are not both true
apart : (v : ℕ → Bool) (n : ℕ) (a : Lit) → 2 ≤ a.0 → a.0 % 2 ≡ 0 → is_true v (literal n 0 a) ≡ true → is_true v (denial n 0 a) ≡ true → ⊥
apart v n a big even p q =
    let some : a.0 / 2 ≢ 0 = λ e. omega (arith, big, e) in
    let plain : a.0 % 2 ≢ 1 = λ e. omega (arith, even, e) in
    signed_apart v (0 + a.0 / 2) (rw (ne_eqb (a.0 / 2) 0 some, ne_eqb (a.0 % 2) 1 plain) at p) (rw (ne_eqb (a.0 / 2) 0 some, ne_eqb (a.0 % 2) 1 plain) at q)

-- the denial of its negation is the literal
denied_negation : (v : ℕ → Bool) (n : ℕ) (a : Lit) → 2 ≤ a.0 → a.0 % 2 ≡ 0 → is_true v (denial n 0 (record { 0 = a.0 + 1 })) ≡ true → is_true v (literal n 0 a) ≡ true
denied_negation v n a big even p =
    let some : a.0 / 2 ≢ 0 = λ e. omega (arith, big, e) in
    let plain : a.0 % 2 ≢ 1 = λ e. omega (arith, even, e) in
    let half : (a.0 + 1) / 2 ≡ a.0 / 2 = omega (arith, even) in
    let odd : (a.0 + 1) % 2 ≡ 1 = omega (arith, even) in
    let given : is_true v (signed (not true) (0 + a.0 / 2)) ≡ true = rw (half, odd, ne_eqb (a.0 / 2) 0 some) at p in
    rw (ne_eqb (a.0 / 2) 0 some, ne_eqb (a.0 % 2) 1 plain) given

-- the value of the reset and the denial of the literal that is true at first exclude each other
reset_apart : (v : ℕ → Bool) (n : ℕ) (l : Latch) → 2 ≤ l.lit.0 → l.lit.0 % 2 ≡ 0 → l.reset.0 < 2 → All (IsSatisfied v) (reset_clauses n 0 l) → is_true v (denial n 0 (high_of l)) ≡ true → ⊥
reset_apart v n l big even fixed resets denied = elim (cases_eq l.reset.0 1) [
  | inl one ↦
      let not_zero : l.reset.0 ≢ 0 = λ e. omega (arith, one, e) in
      let clauses : All (IsSatisfied v) ((literal n 0 l.lit ∷ []) ∷ []) = rw (ne_eqb l.reset.0 0 not_zero, eq-eqb l.reset.0 1 one) at resets in
      let value : is_true v (literal n 0 l.lit) ≡ true = satisfied-unit v (literal n 0 l.lit) (clauses 0 [] (omega arith)) in
      let is : high_of l ≡ l.lit = rw (eq-eqb l.reset.0 1 one) refl in
      let here : is_true v (denial n 0 l.lit) ≡ true = subst (λ (a : Lit). is_true v (denial n 0 a) ≡ true) is denied in
      apart v n l.lit big even value here
  | inr other ↦
      let zero_reset : l.reset.0 ≡ 0 = omega (arith, fixed, other) in
      let clauses : All (IsSatisfied v) ((denial n 0 l.lit ∷ []) ∷ []) = rw (eq-eqb l.reset.0 0 zero_reset) at resets in
      let value : is_true v (denial n 0 l.lit) ≡ true = satisfied-unit v (denial n 0 l.lit) (clauses 0 [] (omega arith)) in
      let is : high_of l ≡ record { 0 = l.lit.0 + 1 } = rw (ne_eqb l.reset.0 1 other) refl in
      let here : is_true v (denial n 0 (record { 0 = l.lit.0 + 1 })) ≡ true = subst (λ (a : Lit). is_true v (denial n 0 a) ≡ true) is denied in
      apart v n l.lit big even (denied_negation v n l.lit big even here) value
]

-- a clause with a literal that is true at first holds in every first state
pub first_holds : (m : Parts) (l : Latch) (c : List Lit) → IsWellFormed m → Contains m.latches l → l.reset.0 < 2 → Contains c (high_of l) → AreContradictory (init_clauses m c)
first_holds m l c well among fixed has = λ v all.
    let n : ℕ = m.max_var in
    let starts = All-left (IsSatisfied v) (start_clauses m) (unit_clauses (init_units m c)) all in
    let resets = All-unflat_map (IsSatisfied v) (reset_clauses n 0) m.latches (All-tail (IsSatisfied v) (truth_clause n 0) (flat_map (reset_clauses n 0) m.latches) starts) in
    let mine : All (IsSatisfied v) (reset_clauses n 0 l) = All-contains (λ x. All (IsSatisfied v) (reset_clauses n 0 x)) m.latches l resets among in
    let units = satisfied-units v (init_units m c) (All-right (IsSatisfied v) (start_clauses m) (unit_clauses (init_units m c)) all) in
    let denials : All (λ a. is_true v (denial n 0 a) ≡ true) c = All-unmap (λ x. is_true v x ≡ true) (denial n 0) c units in
    let denied : is_true v (denial n 0 (high_of l)) ≡ true = All-contains (λ a. is_true v (denial n 0 a) ≡ true) c (high_of l) denials has in
    let even = All-contains (λ x. (2 ≤ x.lit.0) × (x.lit.0 % 2 ≡ 0)) m.latches l (latches_even m well) among in
    reset_apart v n l even.0 even.1 fixed mine denied
