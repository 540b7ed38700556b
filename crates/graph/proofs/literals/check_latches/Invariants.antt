use Rattle.std.proofs.Common.{Ok, take}
use Rattle.std.specs.List.{flat_map}
use Rattle.graph.specs.Uses.{latch_uses}
use Rattle.graph.specs.Faults.{GoesOn}
use Rattle.graph.proofs.literals.check_latches.Given as goal

abbrev pub invariant-loop-latch : goal.invariant-loop-latch
invariant-loop-latch l = GoesOn l.max_var l.before (flat_map latch_uses (take l.latch-index l.latches)) (Ok l.count)
