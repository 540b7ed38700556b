use Rattle.std.proofs.Common.{◌≡◌}
use Rattle.base.specs.Budget.{Spends}
use Rattle.latch_guesses.proofs.sweeping.sweep_pairs.Given as goal

abbrev pub invariant-sweeping : goal.invariant-sweeping
invariant-sweeping g l = record {
  vars : g.S.Sat.vars l.solver ≡ g.S.Sat.vars l.initial.solver;
  same : l.sweep ≡ l.initial.sweep;
  spends : Spends l.initial.budget l.budget;
}
