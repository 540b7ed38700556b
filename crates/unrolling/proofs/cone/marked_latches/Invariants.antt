use Rattle.unrolling.specs.Cones.{ArePositions, is_marked_latch}
use Rattle.unrolling.proofs.cone.marked_latches.Given as goal

abbrev pub invariant-loop-position : goal.invariant-loop-position
invariant-loop-position l = ArePositions (is_marked_latch l.marks l.latches) l.position l.positions.items
