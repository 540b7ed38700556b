-- The numbers of refusals.
use Rattle.std.specs.Prelude.{ℕ}
use Rattle.base.specs.Witness.{witness}
use Rattle.solver.specs.Full.{full}
use Rattle.solver.specs.declared.sat_error.SatError.{SatError}
use Rattle.solver.specs.declared.sat_error.SatError.TheVariants as sat
use Rattle.engine.specs.declared.engine_error.EngineError.{EngineError}
use Rattle.engine.specs.declared.engine_error.EngineError.TheVariants.{Limit, OutOfMemory}

abbrev pub number_of : EngineError → ℕ
number_of (Limit used_up) = 4
number_of (OutOfMemory refused) = 20

-- what a refusal of the solver is here
abbrev pub of_solver : SatError → EngineError
of_solver (sat.Limit used_up) = Limit full
of_solver (sat.OutOfMemory refused) = OutOfMemory witness
