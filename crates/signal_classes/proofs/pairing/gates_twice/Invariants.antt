use Rattle.std.proofs.Common.{◌≡◌, ◌++◌, map, take}
use Rattle.signal_classes.specs.Paired.{gate_next}
use Rattle.signal_classes.proofs.pairing.gates_twice.Given as goal

abbrev pub invariant-loop-gate : goal.invariant-loop-gate
invariant-loop-gate l = l.twice ≡ l.gates ++ map (gate_next l.later) (take l.gate-index l.gates)
