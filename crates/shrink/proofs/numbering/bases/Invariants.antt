use Rattle.std.proofs.Common.{◌≡◌, ◌++◌, map, take}
use Rattle.shrink.proofs.numbering.bases.Given as goal

abbrev pub invariant-loop-latch : goal.invariant-loop-latch
invariant-loop-latch l = l.bases.items ≡ l.parts.inputs ++ map (λ l. l.lit) (take l.latch-index l.parts.latches)
