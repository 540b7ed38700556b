use Rattle.std.proofs.Common.{◌≡◌, take}
use Rattle.std.specs.List.{flat_map}
use Rattle.std.specs.Io.KnownBytes.{Appends}
use Rattle.stimulus.specs.Texts.{value_text}
use Rattle.stimulus.proofs.writing.put_values.Given as goal

abbrev pub invariant-loop-value : goal.invariant-loop-value
invariant-loop-value g l = record {
  steady : g.W.Sink.failed l.out ≡ g.W.Sink.failed l.initial.out;
  appended : Appends (g.W.Sink.contents l.initial.out) (g.W.Sink.contents l.out) (flat_map value_text (take l.value-index l.values));
}
