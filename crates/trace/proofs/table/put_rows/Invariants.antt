use Rattle.std.proofs.Common.{◌≡◌, length, map, take}
use Rattle.std.specs.List.{flat_map}
use Rattle.std.specs.Io.KnownBytes.{Appends}
use Rattle.wave_signals.specs.Columns.{rows_of}
use Rattle.trace.specs.Traces.{row_text, values_width}
use Rattle.trace.proofs.table.put_rows.Given as goal

abbrev pub invariant-loop-signal : goal.invariant-loop-signal
invariant-loop-signal g l = record {
  steady : g.W.Sink.failed l.out ≡ g.W.Sink.failed l.initial.out;
  put : l.widths ≡ map (values_width l.signals) (rows_of (length l.bits) (length l.widths) l.values) →
      Appends (g.W.Sink.contents l.initial.out) (g.W.Sink.contents l.out) (flat_map (row_text l.bits l.signals (rows_of (length l.bits) (length l.widths) l.values)) (take l.signal-index l.signals));
}
