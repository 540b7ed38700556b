use Rattle.std.proofs.Common.{◌≡◌, map, take}
use Rattle.merged.specs.Merged.{merged_latch as word}
use Rattle.merged.proofs.reading.read_latches.Given as goal

abbrev pub invariant-loop-latch : goal.invariant-loop-latch
invariant-loop-latch l = l.all ≡ map (word l.table) (take l.latch-index l.latches)
