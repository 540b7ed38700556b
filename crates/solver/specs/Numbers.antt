-- The numbers of refusals.
use Rattle.std.specs.Prelude.{ℕ}
use Rattle.solver.specs.declared.sat_error.SatError.{SatError}
use Rattle.solver.specs.declared.sat_error.SatError.TheVariants.{Limit, OutOfMemory}

abbrev pub number_of : SatError → ℕ
number_of (Limit used_up) = 4
number_of (OutOfMemory refused) = 20
