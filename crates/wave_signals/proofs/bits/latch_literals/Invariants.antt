use Rattle.std.proofs.Common.{◌≡◌, map, take}
use Rattle.wave_signals.proofs.bits.latch_literals.Given as goal

abbrev pub invariant-loop-latch : goal.invariant-loop-latch
invariant-loop-latch l = l.lits.items ≡ map (λ x. x.lit) (take l.latch-index l.latches)
