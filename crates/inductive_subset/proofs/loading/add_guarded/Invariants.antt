use Rattle.std.proofs.Common.{◌≡◌, ◌<◌, ℕ, All, Contains}
use Rattle.cnf.specs.Clauses.{time_clauses}
use Rattle.inductive_subset.specs.Guards.{guarded_clause, IsOfCase}
use Rattle.inductive_subset.proofs.loading.add_guarded.Given as goal

abbrev pub invariant-adding : goal.invariant-adding
invariant-adding g l = record {
  vars : g.S.Sat.vars l.solver ≡ g.S.Sat.vars l.initial.solver;
  only : All (IsOfCase l.circuit l.invariant') (g.S.Sat.clauses l.solver);
  time : All (Contains (g.S.Sat.clauses l.solver)) (time_clauses l.circuit 0);
  each : (i : ℕ) → i < l.place → Contains (g.S.Sat.clauses l.solver) (guarded_clause l.circuit l.invariant' i);
}
