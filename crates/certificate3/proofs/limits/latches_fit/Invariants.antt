use Rattle.std.proofs.Common.{All, take}
use Rattle.certificate3.specs.Texts.{AreLatchWords}
use Rattle.certificate3.proofs.limits.latches_fit.Given as goal

abbrev pub invariant-loop-latch : goal.invariant-loop-latch
invariant-loop-latch l = All AreLatchWords (take l.latch-index l.latches)
