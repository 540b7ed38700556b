use Rattle.std.proofs.Common.{map, take}
use Rattle.graph.specs.Circuits.{variable}
use Rattle.cones.specs.Reach.{Grows}
use Rattle.unrolling.proofs.cone.mark_all.Given as goal

abbrev pub invariant-loop-lit : goal.invariant-loop-lit
invariant-loop-lit l = Grows (map variable (take l.lit-index l.lits)) l.initial.marks l.initial.list.items l.marks l.list.items
