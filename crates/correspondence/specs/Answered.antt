-- What is answered by an engine that looks for equal latches first.
use Rattle.std.specs.Prelude.{◌≡◌, ◌⊎◌, List, ◌++◌, Result, Ok, Err}
use Rattle.base.specs.Budget.{Spends, Steps}
use Rattle.graph.specs.declared.circuit.Lit.{Lit}
use Rattle.graph.specs.declared.parts.Parts.{Parts}
use Rattle.engine.specs.declared.engine_error.EngineError.{EngineError}
use Rattle.engine.specs.declared.finding.Finding.{Finding}
use Rattle.engine.specs.declared.finding.Finding.TheVariants.{Invariant, Run, Unknown}
use Rattle.cnf.specs.Invariants.{IsInvariant}
use Rattle.merged.specs.Laws.{AreInductive}
use Rattle.merged.specs.Merged.{IsMerged}

-- an invariant, or a refusal
abbrev pub IsOwn : Parts → Result Finding EngineError → Type 0
IsOwn m (Ok (Invariant inv)) = IsInvariant m inv
IsOwn m (Ok (Run initial inputs)) = ⊥
IsOwn m (Ok (Unknown reason)) = ⊥
IsOwn m (Err e) = Unit {0}

-- what is found of the merged circuit: an invariant comes behind the clauses by which it was merged
abbrev pub carried : List (List Lit) → Finding → Finding
carried cs (Invariant inv) = Invariant (cs ++ inv)
carried cs (Run initial inputs) = Run initial inputs
carried cs (Unknown reason) = Unknown reason

abbrev pub carried_back : List (List Lit) → Result Finding EngineError → Result Finding EngineError
carried_back cs (Ok finding) = Ok (carried cs finding)
carried_back cs (Err e) = Err e

-- the other engine answers about the circuit in which latches that clauses say to be equal are merged
pub record IsOfMerged (others : Parts → Steps → Result Finding EngineError → Steps → Type 0) (m : Parts) (before : Steps) (r : Result Finding EngineError) (after : Steps) : Type 0 where
  pub clauses : List (List Lit)
  pub circuit : Parts
  pub answer : Result Finding EngineError
  pub inductive_in : AreInductive m clauses
  pub is_merged : IsMerged m circuit clauses
  pub answered : others circuit before answer after
  pub back : r ≡ carried_back clauses answer

-- what the other engine answers, about the circuit or the merged one
abbrev pub IsOfOther : (Parts → Steps → Result Finding EngineError → Steps → Type 0) → Parts → Steps → Result Finding EngineError → Steps → Type 0
IsOfOther others m before r after = others m before r after ⊎ IsOfMerged others m before r after

-- such an answer, or what the other engine answers with what was left of the budget
abbrev pub IsAnswered : (Parts → Steps → Result Finding EngineError → Steps → Type 0) → Parts → Steps → Result Finding EngineError → Steps → Type 0
IsAnswered others m before r after = IsOwn m r ⊎ ((middle : Steps) × Spends before middle × IsOfOther others m middle r after)
