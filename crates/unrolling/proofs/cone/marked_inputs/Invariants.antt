use Rattle.unrolling.specs.Cones.{ArePositions, is_marked_input}
use Rattle.unrolling.proofs.cone.marked_inputs.Given as goal

abbrev pub invariant-loop-position : goal.invariant-loop-position
invariant-loop-position l = ArePositions (is_marked_input l.marks l.inputs) l.position l.positions.items
