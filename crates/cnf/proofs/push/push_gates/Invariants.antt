use Rattle.std.proofs.Common.{◌≡◌, ◌++◌, take}
use Rattle.std.specs.Prelude.{flat_map}
use Rattle.cnf.specs.Clauses.{gate_clauses}
use Rattle.cnf.proofs.push.push_gates.Given as goal

abbrev pub invariant-loop-gate : goal.invariant-loop-gate
invariant-loop-gate g l = g.C.AddClause.clauses l.clauses ≡ g.C.AddClause.clauses l.initial.clauses ++ flat_map (gate_clauses l.time.max_var l.time.offset) (take l.gate-index l.gates)
