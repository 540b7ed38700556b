use Rattle.std.proofs.Common.{◌≡◌}
use Rattle.base.specs.Budget.{Spends}
use Rattle.window_search.proofs.window.find_window.Given as goal

abbrev pub invariant-widening : goal.invariant-widening
invariant-widening g l = record {
  vars : g.S.Sat.vars l.solver ≡ l.frames;
  spends : Spends l.initial.budget l.budget;
}
