-- What clauses say of literals is so.
use Rattle.std.proofs.Common.{◌≡◌, ◌∙◌, zero, suc, ◌⊎◌, Bool, true, false, not, inl, inr, List, [], ◌∷◌, refl, sym, ap, subst, arith}
use Rattle.graph.specs.declared.circuit.Lit.{Lit}
use Rattle.graph.specs.Circuits.{Valuation, place, value_of}
use Rattle.cnf.specs.Clauses.{along}
use Rattle.cnf.specs.Meaning.{HoldsClause}
use Rattle.latch_map.specs.Equal.{AreDenials, SaysTrue, SaysOpposite}
use Rattle.latch_map.proofs.Tables.{value_along}

-- a clause of one literal, and one of two
one_of : (w : Valuation) (a : Lit) → HoldsClause w (a ∷ []) → value_of w a ≡ true
one_of w a (zero, x, lt, at, p) = ap (value_of w) at ∙ p
one_of w a (suc k, x, lt, at, p) = absurd (omega arith)

two_of : (w : Valuation) (a b : Lit) → HoldsClause w (a ∷ b ∷ []) → (value_of w a ≡ true) ⊎ (value_of w b ≡ true)
two_of w a b (zero, x, lt, at, p) = inl (ap (value_of w) at ∙ p)
two_of w a b (suc zero, x, lt, at, p) = inr (ap (value_of w) at ∙ p)
two_of w a b (suc (suc k), x, lt, at, p) = absurd (omega arith)

-- one of the values is true, and one is not
apart : (p q : Bool) → (p ≡ true) ⊎ (q ≡ true) → (not p ≡ true) ⊎ (not q ≡ true) → p ≡ not q
apart true true some (inl e) = sym e
apart true true some (inr e) = sym e
apart true false some other = refl
apart false true some other = refl
apart false false (inl e) other = e
apart false false (inr e) other = e

-- the values of two negations
denied : (w : Valuation) (d : List Lit) (a b : Lit) → HoldsClause w d → AreDenials d a b → (not (value_of w a) ≡ true) ⊎ (not (value_of w b) ≡ true)
denied w d a b hold (inl here) = elim (two_of w (along true a) (along true b) (subst (HoldsClause w) here hold)) [
  | inl e ↦ inl (sym (value_along w true a) ∙ e)
  | inr e ↦ inr (sym (value_along w true b) ∙ e)
]
denied w d a b hold (inr here) = elim (two_of w (along true b) (along true a) (subst (HoldsClause w) here hold)) [
  | inl e ↦ inr (sym (value_along w true b) ∙ e)
  | inr e ↦ inl (sym (value_along w true a) ∙ e)
]

pub true_said : (w : Valuation) (c : List Lit) (a b : Lit) → place w 0 ≡ false → HoldsClause w c → SaysTrue c a b → value_of w a ≡ value_of w b
true_said w c a b off hold said =
    one_of w a (subst (HoldsClause w) said.here hold) ∙ sym (ap not off) ∙ ap (value_of w) (sym said.truth)

pub opposite_said : (w : Valuation) (c d : List Lit) (a b : Lit) → HoldsClause w c → HoldsClause w d → SaysOpposite c d a b → value_of w a ≡ value_of w b
opposite_said w c d a b hold other said =
    apart (value_of w a) (value_of w said.other) (two_of w a said.other (subst (HoldsClause w) said.here hold)) (denied w d a said.other other said.there)
    ∙ sym (value_along w true said.other) ∙ ap (value_of w) (sym said.value_is)
