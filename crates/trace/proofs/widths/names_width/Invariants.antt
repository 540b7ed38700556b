use Rattle.std.proofs.Common.{◌≡◌, map, take}
use Rattle.wave_signals.specs.Signals.{bits_of, signal_name}
use Rattle.trace.specs.Widths.{width_of}
use Rattle.trace.proofs.widths.names_width.Given as goal

abbrev pub invariant-loop-signal : goal.invariant-loop-signal
invariant-loop-signal l = l.width ≡ width_of (map (λ s. signal_name (bits_of l.bits s)) (take l.signal-index l.signals))
