use Rattle.std.proofs.Common.{◌≡◌, ◌*◌, length, map, take, drop}
use Rattle.wave_signals.specs.Columns.{rows_of}
use Rattle.trace.specs.Traces.{values_width}
use Rattle.trace.proofs.widths.values_widths.Given as goal

abbrev pub invariant-loop-time : goal.invariant-loop-time
invariant-loop-time l = record {
  left : l.rest ≡ drop (l._time * length l.bits) l.values;
  widths : l.widths.items ≡ map (values_width l.signals) (take l._time (rows_of (length l.bits) l.times l.values));
}
