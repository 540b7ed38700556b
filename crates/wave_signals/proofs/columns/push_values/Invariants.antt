use Rattle.std.proofs.Common.{◌≡◌, ◌++◌, Some, take}
use Rattle.graph.specs.Circuits.{Valuation}
use Rattle.wave_signals.specs.Columns.{known_at}
use Rattle.wave_signals.proofs.columns.push_values.Given as goal

abbrev pub invariant-loop-bit : goal.invariant-loop-bit
invariant-loop-bit l = (w : Valuation) → l.replay.now ≡ Some w → l.values.items ≡ l.initial.values.items ++ known_at (take l.bit-index l.bits) w
