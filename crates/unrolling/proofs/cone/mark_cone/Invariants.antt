use Rattle.std.proofs.Common.{◌+◌, ◌-◌, length, sum_by}
use Rattle.cones.specs.Reach.{idle}
use Rattle.unrolling.proofs.Closed.{IsClosing}
use Rattle.unrolling.proofs.cone.mark_cone.Given as goal

abbrev pub invariant-closing : goal.invariant-closing
invariant-closing l = IsClosing l.circuit l.cuts l.marks l.list.items l.next

abbrev pub decreases-closing : goal.decreases-closing
decreases-closing l = sum_by idle l.marks + (length l.list.items - l.next)
