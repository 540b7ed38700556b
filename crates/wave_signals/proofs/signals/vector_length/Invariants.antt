use Rattle.std.proofs.Common.{ℕ, ◌<◌, get_or}
use Rattle.wave_signals.specs.declared.bits.Bit.{Bit}
use Rattle.wave_signals.specs.Signals.{AreApart}
use Rattle.wave_signals.proofs.signals.vector_length.Given as goal

abbrev pub invariant-loop-k : goal.invariant-loop-k
invariant-loop-k l = (j : ℕ) (d : Bit) → 0 < j → j < l.k → AreApart (get_or l.bits 0 d) j (get_or l.bits j d)
