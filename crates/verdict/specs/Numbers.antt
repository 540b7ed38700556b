-- The numbers and places of refusals.
use Rattle.std.specs.Prelude.{ℕ}
use Rattle.base.specs.Witness.{witness}
use Rattle.solver.specs.Full.{full}
use Rattle.engine.specs.declared.engine_error.EngineError.{EngineError}
use Rattle.engine.specs.declared.engine_error.EngineError.TheVariants as engine
use Rattle.verdict.specs.declared.decide_error.DecideError.{DecideError}
use Rattle.verdict.specs.declared.decide_error.DecideError.TheVariants.{NoProperty, Limit, IdsTaken, OutOfMemory}

abbrev pub number_of : DecideError → ℕ
number_of (NoProperty n) = 30
number_of Limit = 4
number_of (IdsTaken used_up) = 4
number_of (OutOfMemory refused) = 20

abbrev pub place_of : DecideError → ℕ
place_of (NoProperty n) = n
place_of Limit = 0
place_of (IdsTaken used_up) = 0
place_of (OutOfMemory refused) = 0

-- what a refusal of an engine is here
abbrev pub of_engine : EngineError → DecideError
of_engine (engine.Limit used_up) = IdsTaken full
of_engine (engine.OutOfMemory refused) = OutOfMemory witness
