use Rattle.base.specs.Budget.{Spends}
use Rattle.round_clauses.proofs.sharing.with_gates.Given as goal

abbrev pub invariant-sharing : goal.invariant-sharing
invariant-sharing l = Spends l.initial.budget l.budget
