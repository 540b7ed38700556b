use Rattle.base.specs.Budget.{Spends}
use Rattle.signal_implications.proofs.candidates.Candidates.of.Given as goal

abbrev pub invariant-loop-place : goal.invariant-loop-place
invariant-loop-place l = Spends l.initial.budget l.budget
