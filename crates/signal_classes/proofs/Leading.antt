-- Steps from a literal to the one that it is known to be equal to.
use Rattle.std.proofs.Common.{◌≡◌, ℕ, zero, suc, ◌+◌, List, Option, None, Some, refl, ap, ◌∙◌, arith}
use Rattle.graph.specs.declared.circuit.Lit.{Lit}
use Rattle.graph.specs.Circuits.{variable}
use Rattle.cnf.specs.Clauses.{along, is_negated}
use Rattle.signal_classes.specs.Known.{equal_in, led, one_led}

-- one step less from what a literal is known to be equal to
pub led_on : (equal : List (Option Lit)) (n k : ℕ) (a b : Lit) → n ≡ k + 1 → equal_in equal (variable a) ≡ Some b → led equal n a ≡ led equal k (along (is_negated a) b)
led_on equal zero k a b one is = absurd (omega (arith, one))
led_on equal (suc n) k a b one is = let same : n ≡ k = omega (arith, one) in ap (λ (q : Option Lit). led equal n (one_led q a)) is ∙ ap (λ (j : ℕ). led equal j (along (is_negated a) b)) same

-- what is known to be equal to nothing leads to itself
pub led_still : (equal : List (Option Lit)) (n : ℕ) (a : Lit) → equal_in equal (variable a) ≡ None → led equal n a ≡ a
led_still equal zero a none = refl
led_still equal (suc n) a none = ap (λ (q : Option Lit). led equal n (one_led q a)) none ∙ led_still equal n a none
