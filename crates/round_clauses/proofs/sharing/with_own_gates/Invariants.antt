use Rattle.base.specs.Budget.{Spends}
use Rattle.round_clauses.proofs.sharing.with_own_gates.Given as goal

abbrev pub invariant-replacing : goal.invariant-replacing
invariant-replacing l = Spends l.initial.budget l.budget
