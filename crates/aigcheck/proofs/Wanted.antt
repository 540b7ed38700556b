-- What is said of one kind of evidence and of one property is said of what equals them.
use Rattle.std.proofs.Common.{◌≡◌, ℕ, List, Option, sym, subst}
use Rattle.base.specs.Devices.{Leaves, Reads}
use Rattle.graph.specs.declared.circuit.Property.{Property}
use Rattle.properties.specs.declared.naming.Evidence.{Evidence}

-- a fact about what two sources gave
abbrev pub OfBoth : (a b c d : Leaves) → (List ℕ → List ℕ → Type 0) → Type 0
OfBoth a b c d Q = Reads a b (λ xs _. Reads c d (λ ys _. Q xs ys))

pub wanted_so : (e f : Evidence) (w v : Option Property) → e ≡ f → w ≡ v → (a b c d : Leaves) (Q : Evidence → Option Property → List ℕ → List ℕ → Type 0) → OfBoth a b c d (Q f v) → OfBoth a b c d (Q e w)
wanted_so e f w v same wanted a b c d Q of =
    subst (λ g. OfBoth a b c d (Q g w)) (sym same) (subst (λ u. OfBoth a b c d (Q f u)) (sym wanted) of)

-- the same, where less is said of the two
pub then_so : (a b c d : Leaves) (P Q : List ℕ → List ℕ → Type 0) → ((xs ys : List ℕ) → P xs ys → Q xs ys) → OfBoth a b c d P → OfBoth a b c d Q
then_so a b c d P Q step of = λ text later left.
    let (xs, first, both) = of text later left in
    (xs, first, λ other rest end. let (ys, second, says) = both other rest end in (ys, second, step xs ys says))
