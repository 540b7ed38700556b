use Rattle.base.specs.Budget.{Spends}
use Rattle.latch_classes.proofs.search.Search.chase.Given as goal

abbrev pub invariant-chasing : goal.invariant-chasing
invariant-chasing l = Spends l.initial.budget l.budget

abbrev pub decreases-chasing : goal.decreases-chasing
decreases-chasing l = l.budget.left
