use Rattle.base.specs.Budget.{Spends}
use Rattle.signal_rounds.proofs.finding.induce.Given as goal

abbrev pub invariant-inducing : goal.invariant-inducing
invariant-inducing g l = Spends l.initial.budget l.budget

abbrev pub decreases-inducing : goal.decreases-inducing
decreases-inducing g l = l.budget.left
