use Rattle.base.specs.Budget.{Spends}
use Rattle.latch_classes.proofs.search.Search.simulate.Given as goal

abbrev pub invariant-simulating : goal.invariant-simulating
invariant-simulating l = Spends l.initial.budget l.budget
