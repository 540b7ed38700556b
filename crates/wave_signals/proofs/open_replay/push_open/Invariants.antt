use Rattle.std.proofs.Common.{◌≡◌, ◌++◌, map, take}
use Rattle.wave_signals.specs.OpenValues.{open_value_of}
use Rattle.wave_signals.proofs.open_replay.push_open.Given as goal

abbrev pub invariant-loop-bit : goal.invariant-loop-bit
invariant-loop-bit l = l.rows.items ≡ l.initial.rows.items ++ map (λ b. open_value_of l.values b.lit) (take l.bit-index l.bits)
