-- What two engines answer that share a budget.
use Rattle.std.specs.Prelude.{◌≡◌, ◌≤◌, ◌⊎◌, Result, Ok}
use Rattle.base.specs.Budget.{Spends, Steps}
use Rattle.graph.specs.declared.circuit.Property.TheVariants.{Bad}
use Rattle.graph.specs.declared.parts.Parts.{Parts}
use Rattle.stimulus.specs.declared.value.Stimulus.TheVariants.{Violated}
use Rattle.stimulus.specs.Shown.{ShowsBad}
use Rattle.cnf.specs.Invariants.{IsInvariant}
use Rattle.engine.specs.declared.engine_error.EngineError.{EngineError}
use Rattle.engine.specs.declared.finding.Finding.{Finding}
use Rattle.engine.specs.declared.finding.Finding.TheVariants.{Invariant, Run, Unknown}
use Rattle.engine.specs.declared.finding.Reason.{Reason}
use Rattle.engine.specs.declared.finding.Reason.TheVariants.{Budget}

-- the run shows the bad literal, or the clauses are an invariant; of an unknown nothing is said
abbrev pub IsShown : Parts → Finding → Type 0
IsShown m (Run initial inputs) = ShowsBad m (Violated (Bad 0) initial inputs)
IsShown m (Invariant inv) = IsInvariant m inv
IsShown m (Unknown reason) = Unit {0}

-- an engine answers with a part of the budget
abbrev pub IsOfPart : (Parts → Steps → Result Finding EngineError → Steps → Type 0) → Parts → Steps → Result Finding EngineError → Type 0
IsOfPart answers m before r = (part : Steps) × (end : Steps) × (part.left ≤ before.left) × answers m part r end

-- an engine answers with the budget, and of an unknown of it is said that what it left is spent
abbrev pub IsOfRest : (Parts → Steps → Result Finding EngineError → Steps → Type 0) → Parts → Steps → Result Finding EngineError → Steps → Type 0
IsOfRest answers m before r after =
    answers m before r after ⊎ ((left : Steps) × (reason : Reason) × answers m before (Ok (Unknown reason)) left × (r ≡ Ok (Unknown Budget)) × (after.left ≡ 0))

-- what the first one answers with a part of the budget, or behind an unknown of it what the second one does with what is left
abbrev pub AreInShares : (Parts → Steps → Result Finding EngineError → Steps → Type 0) → (Parts → Steps → Result Finding EngineError → Steps → Type 0) → Parts → Steps → Result Finding EngineError → Steps → Type 0
AreInShares first second m before r after =
    IsOfPart first m before r ⊎ ((middle : Steps) × (reason : Reason) × IsOfPart first m before (Ok (Unknown reason)) × Spends before middle × IsOfRest second m middle r after)
