use Rattle.std.proofs.Common.{◌≡◌}
use Rattle.base.specs.Budget.{Spends}
use Rattle.strategies.proofs.timed.TimedSat.solve.Given as goal

abbrev pub invariant-loop : goal.invariant-loop
invariant-loop g l = record {
  vars : g.S.Sat.vars l.self.solver ≡ g.S.Sat.vars l.initial.self.solver;
  clauses : g.S.Sat.clauses l.self.solver ≡ g.S.Sat.clauses l.initial.self.solver;
  spends : Spends l.initial.budget l.budget;
}
