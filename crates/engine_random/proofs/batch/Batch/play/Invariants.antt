use Rattle.std.proofs.Common.{◌≡◌}
use Rattle.base.specs.Budget.{Spends}
use Rattle.engine_random.proofs.batch.Batch.play.Given as goal

abbrev pub invariant-playing : goal.invariant-playing
invariant-playing g l = Spends l.initial.budget l.budget × (l.self.circuit ≡ l.initial.self.circuit)

abbrev pub decreases-playing : goal.decreases-playing
decreases-playing g l = l.budget.left
