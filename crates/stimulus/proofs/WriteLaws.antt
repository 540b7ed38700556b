-- What is written, piece by piece.
use Rattle.std.proofs.Common.{ℕ, List, ◌++◌, Option, Result, IsErr}
use Rattle.base.specs.Devices.{Puts, PutsBeginning}
use Rattle.base.proofs.Putting.{begins_more, puts_err}

-- a failure at the first of two pieces
pub first_fails : {X E : Type 0} (r : Result X E) (a b : Option (List ℕ)) (s t : List ℕ) → IsErr r → PutsBeginning a b s → Puts r a b (s ++ t)
first_fails r a b s t e p = puts_err r a b (s ++ t) e (begins_more a b s t p)
