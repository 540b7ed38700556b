use Rattle.unrolling.proofs.Coned.{AreOrderedTo}
use Rattle.unrolling.proofs.cone.marked_cells.Given as goal

abbrev pub invariant-loop-position : goal.invariant-loop-position
invariant-loop-position l = AreOrderedTo l.circuit l.cuts l.marks l.position-items l.cells.items l.position-index
