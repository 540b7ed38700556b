use Rattle.std.proofs.Common.{◌≡◌}
use Rattle.base.specs.Budget.{Spends}
use Rattle.round_clauses.proofs.strengthening.Steps.fewer_literals.Given as goal

abbrev pub invariant-dropping : goal.invariant-dropping
invariant-dropping g l = record {
  vars : g.S.Sat.vars l.solver ≡ g.S.Sat.vars l.initial.solver;
  spends : Spends l.initial.budget l.budget;
}
