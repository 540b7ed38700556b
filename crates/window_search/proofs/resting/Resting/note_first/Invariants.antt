use Rattle.base.specs.Budget.{Spends}
use Rattle.window_search.proofs.resting.Resting.note_first.Given as goal

abbrev pub invariant-noting : goal.invariant-noting
invariant-noting l = Spends l.initial.budget l.budget
