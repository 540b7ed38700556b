use Rattle.std.proofs.Common.{◌≡◌}
use Rattle.base.specs.Budget.{Spends}
use Rattle.round_clauses.proofs.strengthening.Steps.all_with_fewer.Given as goal

abbrev pub invariant-shortening : goal.invariant-shortening
invariant-shortening g l = record {
  vars : g.S.Sat.vars l.solver ≡ g.S.Sat.vars l.initial.solver;
  spends : Spends l.initial.budget l.budget;
}
