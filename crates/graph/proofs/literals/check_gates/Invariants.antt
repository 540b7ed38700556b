use Rattle.std.proofs.Common.{Ok, take}
use Rattle.std.specs.List.{flat_map}
use Rattle.graph.specs.Uses.{gate_uses}
use Rattle.graph.specs.Faults.{GoesOn}
use Rattle.graph.proofs.literals.check_gates.Given as goal

abbrev pub invariant-loop-gate : goal.invariant-loop-gate
invariant-loop-gate l = GoesOn l.max_var l.before (flat_map gate_uses (take l.gate-index l.gates)) (Ok l.count)
