use Rattle.base.specs.Budget.{Spends}
use Rattle.lrat_trim.proofs.inlining.inlined_chains.Given as goal

abbrev pub invariant-loop-place : goal.invariant-loop-place
invariant-loop-place l = Spends l.initial.budget l.budget
