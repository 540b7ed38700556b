-- The values of literals.
use Rattle.std.proofs.Common.{◌≡◌, ℕ, ◌+◌, ◌-◌, ◌*◌, ◌/◌, ◌%◌, Bool, true, false, not, ◌&&◌, List, refl, inl, inr, arith, ◌∙◌, sym}
use Rattle.std.proofs.lemmas.Bool.{cases_eq}
use Rattle.graph.specs.declared.circuit.Lit.{Lit}
use Rattle.graph.specs.Circuits.{place, variable, value_of, Fires}
use Rattle.live_safe.specs.Shadow.{positive, negative, negation, joins}

pub value-positive : (w : List Bool) (v : ℕ) → value_of w (positive v) ≡ place w v
value-positive w v = let odd : (2 * v) % 2 ≡ 0 = omega arith in let half : (2 * v) / 2 ≡ v = omega arith in rw (odd, half) refl

pub value-negative : (w : List Bool) (v : ℕ) → value_of w (negative v) ≡ not (place w v)
value-negative w v = let odd : (2 * v + 1) % 2 ≡ 1 = omega arith in let half : (2 * v + 1) / 2 ≡ v = omega arith in rw (odd, half) refl

not-not : (b : Bool) → not (not b) ≡ b
not-not true = refl
not-not false = refl

pub value-negation : (w : List Bool) (a : Lit) → value_of w (negation a) ≡ not (value_of w a)
value-negation w a = elim (cases_eq (a.0 % 2) 1) [
  | inl odd ↦ let even : (a.0 - 1) % 2 ≡ 0 = omega arith in let half : (a.0 - 1) / 2 ≡ a.0 / 2 = omega arith in
      rw odd (rw (even, half) (sym (not-not (place w (a.0 / 2)))))
  | inr other ↦ let even : a.0 % 2 ≡ 0 = omega arith in let odd : (a.0 + 1) % 2 ≡ 1 = omega arith in let half : (a.0 + 1) / 2 ≡ a.0 / 2 = omega arith in
      rw even (rw (odd, half) refl)
]

pub variable-negation : (a : Lit) → variable (negation a) ≡ variable a
variable-negation a = elim (cases_eq (a.0 % 2) 1) [
  | inl odd ↦ let half : (a.0 - 1) / 2 ≡ a.0 / 2 = omega arith in rw odd half
  | inr other ↦ let even : a.0 % 2 ≡ 0 = omega arith in let half : (a.0 + 1) / 2 ≡ a.0 / 2 = omega arith in rw even half
]

pub value-at : (w x : List Bool) (a : Lit) → place w (variable a) ≡ place x (variable a) → value_of w a ≡ value_of x a
value-at w x a e = rw e refl

-- what a gate of a new variable says
pub fires_at : (w : List Bool) (v : ℕ) (a b : Lit) → Fires w (joins v a b) → place w v ≡ (value_of w a && value_of w b)
fires_at w v a b fires = sym (value-positive w v) ∙ fires
