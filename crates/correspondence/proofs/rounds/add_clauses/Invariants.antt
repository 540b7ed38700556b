use Rattle.std.proofs.Common.{◌≡◌, ◌++◌, take}
use Rattle.correspondence.proofs.rounds.add_clauses.Given as goal

abbrev pub invariant-loop-clause : goal.invariant-loop-clause
invariant-loop-clause g l = record {
  vars : g.S.Sat.vars l.solver ≡ g.S.Sat.vars l.initial.solver;
  clauses : g.S.Sat.clauses l.solver ≡ g.S.Sat.clauses l.initial.solver ++ take l.clause-index l.clauses;
}
