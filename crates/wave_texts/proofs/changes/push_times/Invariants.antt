use Rattle.std.proofs.Common.{◌≡◌, ◌*◌, ◌<◌, ◌++◌, [], length, drop}
use Rattle.wave_signals.specs.Columns.{rows_of}
use Rattle.wave_texts.specs.Changes.{times_text}
use Rattle.wave_texts.proofs.changes.push_times.Given as goal

abbrev pub invariant-loop-time : goal.invariant-loop-time
invariant-loop-time l = record {
  fits : 0 < length l.before → length l.before ≡ length l.bits;
  left : l.rest ≡ drop (l.time * length l.bits) l.values;
  put : l.text.items ++ times_text l.bits l.signals l.time l.before (drop l.time (rows_of (length l.bits) l.times l.values)) ≡ l.initial.text.items ++ times_text l.bits l.signals 0 [] (rows_of (length l.bits) l.times l.values);
}
