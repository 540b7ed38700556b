use Rattle.std.proofs.Common.{map, take}
use Rattle.graph.specs.Circuits.{variable}
use Rattle.graph.specs.Tables.{StaysCounted}
use Rattle.graph.proofs.definitions.define_latches.Given as goal

abbrev pub invariant-loop-latch : goal.invariant-loop-latch
invariant-loop-latch l = StaysCounted l.initial.table l.table (map (λ x. variable x.lit) (take l.latch-index l.latches))
