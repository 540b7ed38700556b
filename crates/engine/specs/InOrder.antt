-- What two engines answer, one behind the other.
use Rattle.std.specs.Prelude.{◌⊎◌, Result, Ok}
use Rattle.base.specs.Budget.{Steps}
use Rattle.graph.specs.declared.parts.Parts.{Parts}
use Rattle.engine.specs.declared.engine_error.EngineError.{EngineError}
use Rattle.engine.specs.declared.finding.Finding.{Finding}
use Rattle.engine.specs.declared.finding.Finding.TheVariants.{Unknown}
use Rattle.engine.specs.declared.finding.Reason.{Reason}

-- what the first one answers, or behind an unknown of it what the second one does
abbrev pub IsInOrder : (Parts → Steps → Result Finding EngineError → Steps → Type 0) → (Parts → Steps → Result Finding EngineError → Steps → Type 0) → Parts → Steps → Result Finding EngineError → Steps → Type 0
IsInOrder first second m before r after = first m before r after ⊎ ((middle : Steps) × (reason : Reason) × first m before (Ok (Unknown reason)) middle × second m middle r after)
