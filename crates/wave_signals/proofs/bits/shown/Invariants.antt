use Rattle.std.proofs.Common.{◌≡◌, take}
use Rattle.wave_signals.specs.Bits.{shown_of}
use Rattle.wave_signals.proofs.bits.shown.Given as goal

abbrev pub invariant-loop-bit : goal.invariant-loop-bit
invariant-loop-bit l = l.shown.items ≡ shown_of l.all (take l.bit-index l.bits)
