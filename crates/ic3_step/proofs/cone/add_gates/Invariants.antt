use Rattle.std.proofs.Common.{◌≡◌, ◌++◌, take}
use Rattle.std.specs.Prelude.{flat_map}
use Rattle.cnf.specs.Clauses.{gate_clauses}
use Rattle.ic3_step.proofs.cone.add_gates.Given as goal

abbrev pub invariant-loop-gate : goal.invariant-loop-gate
invariant-loop-gate g l = record {
  vars : g.S.Sat.vars l.solver ≡ g.S.Sat.vars l.initial.solver;
  clauses : g.S.Sat.clauses l.solver ≡ g.S.Sat.clauses l.initial.solver ++ flat_map (gate_clauses l.time.max_var 0) (take l.gate-index l.gates);
}
