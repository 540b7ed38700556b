use Rattle.base.specs.Budget.{Spends}
use Rattle.latch_classes.proofs.search.Search.go_on.Given as goal

abbrev pub invariant-going : goal.invariant-going
invariant-going l = Spends l.initial.budget l.budget
