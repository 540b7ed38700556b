use Rattle.std.proofs.Common.{◌≡◌, ◌*◌, List, length, map, take, drop}
use Rattle.std.specs.List.{flat_map}
use Rattle.std.specs.Io.KnownBytes.{Appends}
use Rattle.wave_signals.specs.declared.signals.Signal.{Signal}
use Rattle.wave_signals.specs.Columns.{rows_of}
use Rattle.trace.specs.Traces.{cell_text, values_width}
use Rattle.trace.proofs.table.put_values.Given as goal

abbrev pub invariant-loop-width : goal.invariant-loop-width
invariant-loop-width g l = record {
  steady : g.W.Sink.failed l.out ≡ g.W.Sink.failed l.initial.out;
  left : l.rest ≡ drop (l.width-index * length l.bits) l.values;
  put : (signals : List Signal) → l.widths ≡ map (values_width signals) (rows_of (length l.bits) (length l.widths) l.values) →
      Appends (g.W.Sink.contents l.initial.out) (g.W.Sink.contents l.out) (flat_map (cell_text signals l.signal) (take l.width-index (rows_of (length l.bits) (length l.widths) l.values)));
}
