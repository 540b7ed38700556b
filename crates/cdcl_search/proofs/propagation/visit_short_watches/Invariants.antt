use Rattle.base.specs.Budget.{Spends}
use Rattle.cdcl_search.proofs.propagation.visit_short_watches.Given as goal

abbrev pub invariant-loop-clause : goal.invariant-loop-clause
invariant-loop-clause l = Spends l.initial.budget l.budget
