-- A literal of clauses has the value of the circuit's literal that it stands for.
use Rattle.std.proofs.Common.{◌≡◌, ◌≢◌, ℕ, zero, suc, ◌+◌, ◌≤◌, ◌==◌, if◌then◌else◌, Bool, true, false, not, List, [], ◌∷◌, length, inl, inr, refl, ◌∙◌, ap, arith, pos}
use Rattle.std.proofs.lemmas.Bool.{cases_eq, eq-eqb, ne_eqb}
use Rattle.std.proofs.lemmas.List.{get_or_append_left, get_or_push}
use Rattle.graph.specs.declared.circuit.Lit.{Lit}
use Rattle.graph.specs.declared.parts.Parts.{Parts}
use Rattle.graph.specs.Circuits.{variable, place, value_of, IsValuation}
use Rattle.lrat.specs.Literals.{is_true}
use Rattle.cnf.specs.Clauses.{signed, is_negated, literal, denial}
use Rattle.cnf.specs.Formulas.{IsInRange}
use Rattle.cnf.specs.Meaning.{extension_of}

-- the assignment has the valuation's values after the first o variables
pub record IsLaid (v : ℕ → Bool) (o n : ℕ) (w : List Bool) : Type 0 where
  pub inside : (k : ℕ) → k ≢ 0 → k ≤ n → v (o + k) ≡ place w k
  pub top : v (o + n + 1) ≡ true
  pub constant : place w 0 ≡ false

-- an extension is laid from the start
pub extension_laid : (m : Parts) (w : List Bool) → IsValuation m w → IsLaid (extension_of w) 0 m.max_var w
extension_laid m w h = record {
  inside = λ k nz k_in. let len = h.places in let same : 0 + k ≡ k = omega arith in
      ap (extension_of w) same ∙ get_or_append_left w (true ∷ []) false k (omega arith);
  top = let long : length w ≡ 0 + m.max_var + 1 = omega (arith, h.places) in get_or_push w true false (0 + m.max_var + 1) long;
  constant = h.constant;
}

-- what a variable's value gives a literal of it
abbrev pub turned : Bool → Bool → Bool
turned b p = if b then not p else p

signed_true : (v : ℕ → Bool) (b : Bool) (k : ℕ) → k ≢ 0 → is_true v (signed b k) ≡ turned b (v k)
signed_true v true zero ne = absurd (ne refl)
signed_true v false zero ne = absurd (ne refl)
signed_true v true (suc k) ne = refl
signed_true v false (suc k) ne = refl

turned_not : (b p : Bool) → turned (not b) p ≡ not (turned b p)
turned_not true true = refl
turned_not true false = refl
turned_not false true = refl
turned_not false false = refl

at_zero : (b : Bool) (p q : Bool) → p ≡ true → q ≡ false → turned (not b) p ≡ turned b q
at_zero true p q e f = rw (e, f) refl
at_zero false p q e f = rw (e, f) refl

below_top : (b : Bool) (p q : Bool) → p ≡ true → q ≡ false → turned b p ≡ not (turned b q)
below_top true p q e f = rw (e, f) refl
below_top false p q e f = rw (e, f) refl

chosen : (v : ℕ → Bool) (b : Bool) (k o top : ℕ) (p : Bool) → top ≢ 0 → v top ≡ true → (k ≡ 0 → p ≡ false) → (k ≢ 0 → v (o + k) ≡ p) →
    is_true v (if k == 0 then signed (not b) top else signed b (o + k)) ≡ turned b p
chosen v b k o top p top_in on zero_off inside = elim (cases_eq k 0) [
  | inl z ↦ rw (eq-eqb k 0 z) (signed_true v (not b) top top_in ∙ at_zero b (v top) p on (zero_off z))
  | inr nz ↦ rw (ne_eqb k 0 nz) (signed_true v b (o + k) (λ e. omega arith) ∙ ap (turned b) (inside nz))
]

chosen_not : (v : ℕ → Bool) (b : Bool) (k o top : ℕ) (p : Bool) → top ≢ 0 → v top ≡ true → (k ≡ 0 → p ≡ false) → (k ≢ 0 → v (o + k) ≡ p) →
    is_true v (if k == 0 then signed b top else signed (not b) (o + k)) ≡ not (turned b p)
chosen_not v b k o top p top_in on zero_off inside = elim (cases_eq k 0) [
  | inl z ↦ rw (eq-eqb k 0 z) (signed_true v b top top_in ∙ below_top b (v top) p on (zero_off z))
  | inr nz ↦ rw (ne_eqb k 0 nz) (signed_true v (not b) (o + k) (λ e. omega arith) ∙ ap (turned (not b)) (inside nz) ∙ turned_not b p)
]

pub literal_true : (v : ℕ → Bool) (o n : ℕ) (w : List Bool) (a : Lit) → IsLaid v o n w → IsInRange n a → is_true v (literal n o a) ≡ value_of w a
literal_true v o n w a lies range =
    chosen v (is_negated a) (variable a) o (o + n + 1) (place w (variable a)) (λ e. omega arith) lies.top (λ z. ap (place w) z ∙ lies.constant)
    (λ nz. lies.inside (variable a) nz (omega arith))

pub denial_true : (v : ℕ → Bool) (o n : ℕ) (w : List Bool) (a : Lit) → IsLaid v o n w → IsInRange n a → is_true v (denial n o a) ≡ not (value_of w a)
denial_true v o n w a lies range =
    chosen_not v (is_negated a) (variable a) o (o + n + 1) (place w (variable a)) (λ e. omega arith) lies.top (λ z. ap (place w) z ∙ lies.constant)
    (λ nz. lies.inside (variable a) nz (omega arith))

pos_true : (v : ℕ → Bool) (k : ℕ) → k ≢ 0 → is_true v (pos k) ≡ v k
pos_true v zero ne = absurd (ne refl)
pos_true v (suc k) ne = refl

-- the truth of a time
pub truth_true : (v : ℕ → Bool) (o n : ℕ) (w : List Bool) → IsLaid v o n w → is_true v (pos (o + n + 1)) ≡ true
truth_true v o n w lies = pos_true v (o + n + 1) (λ e. omega arith) ∙ lies.top
