-- Lists of literals, literal by literal.
use Rattle.std.proofs.Common.{ℕ, ℤ, List, [], ◌∷◌, ◌++◌, All, sym, subst, SFits, w32, to_z, of_z}
use Rattle.std.proofs.lemmas.List.Elements.{All-cons, All-nil, All-push}
use Rattle.lrat.specs.Literals.{IsLiteral}
use Rattle.lrat.proofs.Fit.{read32}

-- a list of one literal
pub unit : (n : ℕ) (l : ℤ) → SFits w32 l → IsLiteral n l → All (IsLiteral n) (to_z w32 (of_z w32 l) ∷ [])
unit n l fits is = subst (λ (q : ℤ). All (IsLiteral n) (q ∷ [])) (sym (read32 l fits)) (All-cons (IsLiteral n) l [] is (All-nil (IsLiteral n)))

-- one literal more
pub one_more : (n : ℕ) (ls : List ℤ) (l : ℤ) → SFits w32 l → All (IsLiteral n) ls → IsLiteral n l → All (IsLiteral n) (ls ++ to_z w32 (of_z w32 l) ∷ [])
one_more n ls l fits are is = subst (λ (q : ℤ). All (IsLiteral n) (ls ++ q ∷ [])) (sym (read32 l fits)) (All-push (IsLiteral n) ls l are is)
