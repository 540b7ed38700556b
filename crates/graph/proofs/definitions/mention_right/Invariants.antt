use Rattle.std.proofs.Common.{map, take}
use Rattle.graph.specs.Circuits.{variable}
use Rattle.graph.specs.Tables.{StaysMarked}
use Rattle.graph.proofs.definitions.mention_right.Given as goal

abbrev pub invariant-loop-gate : goal.invariant-loop-gate
invariant-loop-gate l = StaysMarked l.initial.table l.table (map variable (map (λ g. g.rhs1) (take l.gate-index l.gates)))
