use Rattle.std.proofs.Common.{◌≡◌, map, take}
use Rattle.shrink.specs.Hashed.{carried_latch as word}
use Rattle.shrink.proofs.renaming.rename_latches.Given as goal

abbrev pub invariant-loop-latch : goal.invariant-loop-latch
invariant-loop-latch l = l.renamed ≡ map (word l.image) (take l.latch-index l.latches)
