use Rattle.std.proofs.Common.{◌≡◌, map, take}
use Rattle.cone_of_influence.specs.Reduced.{renamed_latch as word}
use Rattle.cone_of_influence.proofs.lists.rename_latches.Given as goal

abbrev pub invariant-loop-latch : goal.invariant-loop-latch
invariant-loop-latch l = l.all ≡ map (word l.numbers) (take l.latch-index l.latches)
