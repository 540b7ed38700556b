use Rattle.std.proofs.Common.{◌≡◌, map, take}
use Rattle.transforms.specs.Extracted.{kept_latch}
use Rattle.transforms.proofs.extracting.latches_in.Given as goal

abbrev pub invariant-loop-latch : goal.invariant-loop-latch
invariant-loop-latch l = l.kept ≡ map (kept_latch l.marks) (take l.latch-index l.latches)
