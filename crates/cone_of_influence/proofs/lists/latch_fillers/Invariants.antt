use Rattle.std.proofs.Common.{◌≡◌, map, take}
use Rattle.cone_of_influence.specs.Reduced.{latch_filler as word}
use Rattle.cone_of_influence.proofs.lists.latch_fillers.Given as goal

abbrev pub invariant-loop-latch : goal.invariant-loop-latch
invariant-loop-latch l = l.fillers ≡ map (word l.marks) (take l.latch-index l.latches)
