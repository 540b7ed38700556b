use Rattle.std.proofs.Common.{map, take}
use Rattle.graph.specs.Circuits.{variable}
use Rattle.graph.specs.Tables.{StaysMarked}
use Rattle.graph.proofs.definitions.mention_next.Given as goal

abbrev pub invariant-loop-latch : goal.invariant-loop-latch
invariant-loop-latch l = StaysMarked l.initial.table l.table (map variable (map (λ x. x.next) (take l.latch-index l.latches)))
