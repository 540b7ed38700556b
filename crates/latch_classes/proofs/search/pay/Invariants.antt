use Rattle.base.specs.Budget.{Spends}
use Rattle.latch_classes.proofs.search.pay.Given as goal

abbrev pub invariant-loop : goal.invariant-loop
invariant-loop l = Spends l.initial.budget l.budget
