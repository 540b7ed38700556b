-- Clauses that say that latches are equal, and an invariant of them.
use Rattle.std.proofs.Common.{◌≡◌, ◌≢◌, ◌∙◌, ℕ, ◌%◌, ◌<◌, ◌≤◌, inl, inr, List, [], ◌∷◌, map, length, get_or, All, AllPairs, Contains, refl, sym, ap, subst, arith}
use Rattle.std.proofs.lemmas.Bool.{cases_eq, eq-eqb, ne_eqb}
use Rattle.std.proofs.lemmas.List.{get_or-map, length-map}
use Rattle.std.proofs.lemmas.List.Kept.{AllPairs-cons}
use Rattle.std.proofs.lemmas.List.Elements.{All-nil, All-cons, All-contains, All-contains_itself}
use Rattle.graph.specs.declared.circuit.Lit.{Lit}
use Rattle.graph.specs.declared.circuit.Latch.{Latch}
use Rattle.graph.specs.declared.parts.Parts.{Parts}
use Rattle.graph.specs.Circuits.{variable}
use Rattle.graph.specs.WellFormed.{IsWellFormed, used}
use Rattle.graph.proofs.Evaluation.{latches_even}
use Rattle.graph.proofs.Tabled.{holds_of_used}
use Rattle.cnf.specs.Clauses.{bad_clauses, step_clauses}
use Rattle.cnf.specs.Formulas.{IsOverLatches, bad_literal}
use Rattle.cnf.specs.Formulas as formulas
use Rattle.cnf.specs.Invariants.{AreContradictory, IsInvariant}
use Rattle.engine.specs.Findings.{IsForBad}
use Rattle.merged.specs.Laws.{AreInductive}
use Rattle.correspondence.specs.Equal.{high_of, low_of, IsEquality}
use Rattle.correspondence.proofs.First.{first_holds}

-- both literals are of the latch
high_variable : (l : Latch) → l.lit.0 % 2 ≡ 0 → variable (high_of l) ≡ variable l.lit
high_variable l even = elim (cases_eq l.reset.0 1) [
  | inl one ↦ rw (eq-eqb l.reset.0 1 one) refl
  | inr other ↦ rw (ne_eqb l.reset.0 1 other) (omega (arith, even))
]

low_variable : (l : Latch) → l.lit.0 % 2 ≡ 0 → variable (low_of l) ≡ variable l.lit
low_variable l even = elim (cases_eq l.reset.0 1) [
  | inl one ↦ rw (eq-eqb l.reset.0 1 one) (omega (arith, even))
  | inr other ↦ rw (ne_eqb l.reset.0 1 other) refl
]

latch_even : (m : Parts) (l : Latch) → IsWellFormed m → Contains m.latches l → l.lit.0 % 2 ≡ 0
latch_even m l well among = (All-contains (λ x. (2 ≤ x.lit.0) × (x.lit.0 % 2 ≡ 0)) m.latches l (latches_even m well) among).1

of_latch : (m : Parts) (l : Latch) (v : ℕ) → Contains m.latches l → v ≡ variable l.lit → Contains (map (λ x. variable x.lit) m.latches) v
of_latch m l v among is = (
  among.0,
  omega (arith, among.1, length-map m.latches (λ (x : Latch). variable x.lit)),
  get_or-map (λ (x : Latch). variable x.lit) m.latches among.0 l v (omega (arith, among.1)) ∙ ap (λ (x : Latch). variable x.lit) among.2 ∙ sym is,
)

pair_apart : (u v : ℕ) → u ≢ v → AllPairs (λ x y. x ≢ y) (u ∷ v ∷ [])
pair_apart u v ne =
    let R : ℕ → ℕ → Type 0 = λ x y. x ≢ y in
    AllPairs-cons R u (v ∷ []) (All-cons (R u) v [] ne (All-nil (R u))) (AllPairs-cons R v [] (All-nil (R v)) (λ i j d lt j_in. absurd (omega (arith, j_in))))

pub constant_is : (m : Parts) (l : Latch) → IsWellFormed m → Contains m.latches l → l.reset.0 < 2 → IsEquality m (high_of l ∷ [])
constant_is m l well among fixed =
    let P : Lit → Type 0 = λ a. Contains (map (λ x. variable x.lit) m.latches) (variable a) in
    record {
      proper = record {
        over = All-cons P (high_of l) [] (of_latch m l (variable (high_of l)) among (high_variable l (latch_even m l well among))) (All-nil P);
        apart = λ i j d lt j_in. absurd (omega (arith, lt, j_in));
      };
      first = first_holds m l (high_of l ∷ []) well among fixed (0, omega arith, refl);
      short = omega arith;
    }

pub implication_is : (m : Parts) (l k : Latch) → IsWellFormed m → Contains m.latches l → Contains m.latches k → l.reset.0 < 2 → variable l.lit ≢ variable k.lit → IsEquality m (high_of l ∷ low_of k ∷ [])
implication_is m l k well l_in k_in fixed differ =
    let P : Lit → Type 0 = λ a. Contains (map (λ x. variable x.lit) m.latches) (variable a) in
    let high : variable (high_of l) ≡ variable l.lit = high_variable l (latch_even m l well l_in) in
    let low : variable (low_of k) ≡ variable k.lit = low_variable k (latch_even m k well k_in) in
    let apart : variable (high_of l) ≢ variable (low_of k) = λ e. differ (sym high ∙ e ∙ low) in
    record {
      proper = record {
        over = All-cons P (high_of l) (low_of k ∷ []) (of_latch m l (variable (high_of l)) l_in high) (All-cons P (low_of k) [] (of_latch m k (variable (low_of k)) k_in low) (All-nil P));
        apart = pair_apart (variable (high_of l)) (variable (low_of k)) apart;
      };
      first = first_holds m l (high_of l ∷ low_of k ∷ []) well l_in fixed (0, omega arith, refl);
      short = omega arith;
    }

pub clauses_over : (m : Parts) (cs : List (List Lit)) → All (IsEquality m) cs → All (IsOverLatches m) cs
clauses_over m cs all k d k_in = (all k d k_in).proper.over

-- as many as the limits allow
pub clauses_fit : (m : Parts) (cs : List (List Lit)) → All (IsEquality m) cs → length cs ≤ 4194303 → formulas.IsInvariant m cs
clauses_fit m cs all few = record {
  clauses = λ k d k_in. let one = all k d k_in in record { over = one.proper.over; short = let short = one.short in omega (arith, short) };
  few = few;
}

-- the bad literal is one of those that the circuit uses
pub bad_used : (m : Parts) (bads : List Lit) → IsForBad m → bads ≡ m.bad → Contains (used m) (get_or bads 0 (record { 0 = 0 }))
bad_used m bads for_bad are =
    let some : 0 < length m.bad = omega (arith, ap length for_bad.one) in
    let same : bad_literal m 0 ≡ get_or bads 0 (record { 0 = 0 }) = ap (λ (xs : List Lit). get_or xs 0 (record { 0 = 0 })) (sym are) in
    subst (Contains (used m)) same ((holds_of_used (Contains (used m)) m (All-contains_itself (used m))).bad 0 (record { 0 = 0 }) some)

-- clauses of them that are asked about are an invariant
pub invariant_is : (m : Parts) (cs : List (List Lit)) (bad : Lit) → bad ≡ bad_literal m 0 → All (IsEquality m) cs → AreContradictory (bad_clauses m cs bad) →
    All (λ c. AreContradictory (step_clauses m cs c)) cs → IsInvariant m cs
invariant_is m cs bad same all excluded goes = record {
  clauses = λ k d k_in. (all k d k_in).proper;
  inductive = record {
    begins = λ k d k_in. (all k d k_in).first;
    goes_on = goes;
    excludes = subst (λ (a : Lit). AreContradictory (bad_clauses m cs a)) same excluded;
  };
}

-- such clauses are inductive
pub inductive_is : (m : Parts) (cs : List (List Lit)) → All (IsEquality m) cs → All (λ c. AreContradictory (step_clauses m cs c)) cs → AreInductive m cs
inductive_is m cs all goes = record {
  proper = λ k d k_in. (all k d k_in).proper;
  begins = λ k d k_in. (all k d k_in).first;
  goes_on = goes;
}
