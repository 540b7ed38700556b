use Rattle.base.specs.Budget.{Spends}
use Rattle.latch_guesses.proofs.rounds.Guesses.settle.Given as goal

abbrev pub invariant-settling : goal.invariant-settling
invariant-settling g l = Spends l.initial.budget l.budget

abbrev pub decreases-settling : goal.decreases-settling
decreases-settling g l = l.budget.left
