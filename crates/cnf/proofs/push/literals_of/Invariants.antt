use Rattle.std.proofs.Common.{◌≡◌, map, take}
use Rattle.cnf.specs.Clauses.{gate_at}
use Rattle.cnf.proofs.push.literals_of.Given as goal

abbrev pub invariant-loop-gate : goal.invariant-loop-gate
invariant-loop-gate l = l.literals ≡ map (gate_at l.time.max_var l.time.offset) (take l.gate-index l.gates)
