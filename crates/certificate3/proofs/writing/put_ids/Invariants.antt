use Rattle.std.proofs.Common.{◌≡◌, take}
use Rattle.std.specs.Prelude.{flat_map}
use Rattle.std.specs.Io.KnownBytes.{Appends}
use Rattle.certificate3.specs.Writing.{id_text}
use Rattle.certificate3.proofs.writing.put_ids.Given as goal

abbrev pub invariant-loop-id : goal.invariant-loop-id
invariant-loop-id g l = record {
  steady : g.W.Sink.failed l.out ≡ g.W.Sink.failed l.initial.out;
  appended : Appends (g.W.Sink.contents l.initial.out) (g.W.Sink.contents l.out) (flat_map id_text (take l.id-index l.ids));
}
