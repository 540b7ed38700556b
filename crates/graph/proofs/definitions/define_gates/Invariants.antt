use Rattle.std.proofs.Common.{map, take}
use Rattle.graph.specs.Circuits.{variable}
use Rattle.graph.specs.Tables.{StaysCounted}
use Rattle.graph.proofs.definitions.define_gates.Given as goal

abbrev pub invariant-loop-gate : goal.invariant-loop-gate
invariant-loop-gate l = StaysCounted l.initial.table l.table (map (λ g. variable g.lhs) (take l.gate-index l.gates))
