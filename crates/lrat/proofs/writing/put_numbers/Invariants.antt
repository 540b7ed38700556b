use Rattle.std.proofs.Common.{◌≡◌, take}
use Rattle.std.specs.Io.KnownBytes.{Appends}
use Rattle.lrat.specs.Texts.{spaced}
use Rattle.lrat.proofs.writing.put_numbers.Given as goal

abbrev pub invariant-loop-number : goal.invariant-loop-number
invariant-loop-number g l = record {
  steady : g.W.Sink.failed l.out ≡ g.W.Sink.failed l.initial.out;
  appended : Appends (g.W.Sink.contents l.initial.out) (g.W.Sink.contents l.out) (spaced g.I.Integer.text (take l.number-index l.numbers));
}
