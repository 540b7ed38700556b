use Rattle.std.proofs.Common.{◌≡◌}
use Rattle.base.specs.Budget.{Spends}
use Rattle.lrat_trim.proofs.inlining.Inlining.inlined.Given as goal

abbrev pub invariant-loop-hint : goal.invariant-loop-hint
invariant-loop-hint l = record {
  vars : l.trail.vars ≡ l.fn.trail.vars;
  spends : Spends l.initial.budget l.budget;
}
