-- The clause of a cube is its negation.
use Rattle.std.proofs.Common.{◌≡◌, ℕ, ◌+◌, ◌*◌, ◌/◌, ◌%◌, Bool, true, false, not, cond, List, [], ◌∷◌, All, Option, Some, None, refl, sym, ap, ◌∙◌, arith}
use Rattle.std.proofs.lemmas.List.Elements.{All-nil, All-cons, All-head, All-tail}
use Rattle.graph.specs.Circuits.{Valuation, place, value_of, variable}
use Rattle.graph.specs.declared.circuit.Latch.{Latch}
use Rattle.graph.specs.declared.circuit.Lit.{Lit}
use Rattle.invariant.specs.Plas.{latch_value, literal_against, clause_of, IsIn, NegationLaw}

-- the literal of a variable, or its negation, at a valuation
value_negated : (w : Valuation) (v : ℕ) → value_of w (record { 0 = 2 * v + 1 }) ≡ not (place w v)
value_negated w v =
    let odd : (2 * v + 1) % 2 ≡ 1 = omega arith in
    let half : (2 * v + 1) / 2 ≡ v = omega arith in
    rw (odd, half) refl

value_positive : (w : Valuation) (v : ℕ) → value_of w (record { 0 = 2 * v + 0 }) ≡ place w v
value_positive w v =
    let even : (2 * v + 0) % 2 ≡ 0 = omega arith in
    let half : (2 * v + 0) / 2 ≡ v = omega arith in
    rw (even, half) refl

not_false : (b : Bool) → not b ≡ false → b ≡ true
not_false true e = refl
not_false false e = sym e

one_to : (w : Valuation) (v : ℕ) (x : Bool) → place w v ≡ x → value_of w (record { 0 = 2 * v + cond x 1 0 }) ≡ false
one_to w v true e = value_negated w v ∙ ap not e
one_to w v false e = value_positive w v ∙ e

one_from : (w : Valuation) (v : ℕ) (x : Bool) → value_of w (record { 0 = 2 * v + cond x 1 0 }) ≡ false → place w v ≡ x
one_from w v true e = not_false (place w v) (sym (value_negated w v) ∙ e)
one_from w v false e = sym (value_positive w v) ∙ e

cube_to : (w : Valuation) (columns : List Latch) (cube : List (Option Bool)) → IsIn w columns cube → All (λ a. value_of w a ≡ false) (clause_of columns cube)
cube_to w [] cube i = All-nil (λ (a : Lit). value_of w a ≡ false)
cube_to w (l ∷ ls) [] i = All-nil (λ (a : Lit). value_of w a ≡ false)
cube_to w (l ∷ ls) (None ∷ cube) i = cube_to w ls cube i
cube_to w (l ∷ ls) (Some b ∷ cube) i =
    All-cons (λ (a : Lit). value_of w a ≡ false) (literal_against l b) (clause_of ls cube) (one_to w (variable l.lit) (latch_value l b) i.0) (cube_to w ls cube i.1)

cube_from : (w : Valuation) (columns : List Latch) (cube : List (Option Bool)) → All (λ a. value_of w a ≡ false) (clause_of columns cube) → IsIn w columns cube
cube_from w [] cube a = tt
cube_from w (l ∷ ls) [] a = tt
cube_from w (l ∷ ls) (None ∷ cube) a = cube_from w ls cube a
cube_from w (l ∷ ls) (Some b ∷ cube) a = (
  one_from w (variable l.lit) (latch_value l b) (All-head (λ (a : Lit). value_of w a ≡ false) (literal_against l b) (clause_of ls cube) a),
  cube_from w ls cube (All-tail (λ (a : Lit). value_of w a ≡ false) (literal_against l b) (clause_of ls cube) a),
)

pub negation_law : NegationLaw
negation_law w columns cube = (cube_to w columns cube, cube_from w columns cube)
