-- What is answered by an engine that asks another one about the reduced circuit.
use Rattle.std.specs.Prelude.{◌≡◌, ◌⊎◌, Result, Ok, Err, map}
use Rattle.base.specs.Budget.{Steps}
use Rattle.graph.specs.declared.parts.Parts.{Parts}
use Rattle.engine.specs.declared.engine_error.EngineError.{EngineError}
use Rattle.engine.specs.declared.finding.Finding.{Finding}
use Rattle.engine.specs.declared.finding.Finding.TheVariants.{Invariant, Run, Unknown}
use Rattle.cone_of_influence.specs.declared.tables.Tables.{Tables}
use Rattle.cone_of_influence.specs.Numbers.{renamed}
use Rattle.cone_of_influence.specs.Reduced.{filled, IsReduced}

-- what is found of the reduced circuit, as a finding of the circuit
abbrev pub carried : Tables → Finding → Finding
carried t (Invariant inv) = Invariant (map (map (renamed t.kept)) inv)
carried t (Run initial inputs) = Run (filled t.latches initial) (map (filled t.inputs) inputs)
carried t (Unknown reason) = Unknown reason

abbrev pub carried_back : Tables → Result Finding EngineError → Result Finding EngineError
carried_back t (Ok finding) = Ok (carried t finding)
carried_back t (Err e) = Err e

abbrev pub IsRefused : Result Finding EngineError → Type 0
IsRefused (Ok finding) = ⊥
IsRefused (Err e) = Unit {0}

-- the other engine answers about the reduced circuit
pub record IsOfReduced (others : Parts → Steps → Result Finding EngineError → Steps → Type 0) (m : Parts) (before : Steps) (r : Result Finding EngineError) (after : Steps) : Type 0 where
  pub circuit : Parts
  pub tables : Tables
  pub answer : Result Finding EngineError
  pub is_reduced : IsReduced m circuit tables
  pub answered : others circuit before answer after
  pub back : r ≡ carried_back tables answer

-- a refusal, or what the other engine answers about the circuit or the reduced one
abbrev pub IsOfCone : (Parts → Steps → Result Finding EngineError → Steps → Type 0) → Parts → Steps → Result Finding EngineError → Steps → Type 0
IsOfCone others m before r after = IsRefused r ⊎ others m before r after ⊎ IsOfReduced others m before r after
