use Rattle.base.specs.Budget.{Spends}
use Rattle.latch_classes.proofs.search.Search.shake.Given as goal

abbrev pub invariant-shaking : goal.invariant-shaking
invariant-shaking l = Spends l.initial.budget l.budget

abbrev pub decreases-shaking : goal.decreases-shaking
decreases-shaking l = l.budget.left
