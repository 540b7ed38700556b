use Rattle.std.proofs.Common.{◌≡◌, map, take}
use Rattle.unrolling.specs.Unrollings.{constant_of}
use Rattle.unrolling.proofs.unrolling.resets.Given as goal

abbrev pub invariant-loop-latch : goal.invariant-loop-latch
invariant-loop-latch l = l.initial'.items ≡ map constant_of (take l.latch-index l.latches)
