-- What an honest engine's finding says.
use Rattle.std.specs.Prelude.{◌≡◌, [], ◌∷◌}
use Rattle.base.specs.Budget.{Steps}
use Rattle.graph.specs.declared.circuit.Lit.{Lit}
use Rattle.graph.specs.declared.circuit.Property.TheVariants.{Bad}
use Rattle.graph.specs.declared.parts.Parts.{Parts}
use Rattle.stimulus.specs.declared.value.Stimulus.TheVariants.{Violated}
use Rattle.stimulus.specs.Shown.{ShowsBad}
use Rattle.cnf.specs.Invariants.{IsInvariant}
use Rattle.engine.specs.Bounds.{IsClear}
use Rattle.engine.specs.declared.finding.Finding.{Finding}
use Rattle.engine.specs.declared.finding.Finding.TheVariants.{Invariant, Run, Unknown}
use Rattle.engine.specs.declared.finding.Reason.{Reason}
use Rattle.engine.specs.declared.finding.Reason.TheVariants.{Budget, Depth, NoEvidence}

-- the circuit has one bad literal, and no justice property
pub record IsForBad (m : Parts) : Type 0 where
  pub bad : Lit
  pub one : m.bad ≡ bad ∷ []
  pub no_justice : m.justice ≡ []

-- nothing is known: because the budget is exhausted, or beyond this number of steps
abbrev pub IsHonest : Parts → Steps → Reason → Type 0
IsHonest m after Budget = after.left ≡ 0
IsHonest m after (Depth steps) = IsClear m (Bad 0) steps
IsHonest m after NoEvidence = ⊥

-- the run shows the bad literal, the clauses are an invariant, or the unknown is honest
abbrev pub IsSo : Parts → Steps → Finding → Type 0
IsSo m after (Run initial inputs) = ShowsBad m (Violated (Bad 0) initial inputs)
IsSo m after (Invariant inv) = IsInvariant m inv
IsSo m after (Unknown reason) = IsHonest m after reason
