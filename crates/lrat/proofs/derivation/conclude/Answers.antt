use Rattle.std.proofs.Common.{refl}
use Rattle.lrat.specs.Found.{found_literals}
use Rattle.lrat.proofs.Hints.{found_as}
use Rattle.lrat.proofs.derivation.conclude.Goals as goal

pub returns-in-False : goal.returns-in-False
returns-in-False g c = record { clause = found_literals c.in-Some.clause; found = found_as _ _ _ c.in-Some.ensures.value refl; denied = c.in-False.ensures }
