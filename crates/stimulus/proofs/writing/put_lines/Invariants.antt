use Rattle.std.proofs.Common.{◌≡◌, take}
use Rattle.std.specs.List.{flat_map}
use Rattle.std.specs.Io.KnownBytes.{Appends}
use Rattle.stimulus.specs.Texts.{line_text}
use Rattle.stimulus.proofs.writing.put_lines.Given as goal

abbrev pub invariant-loop-line : goal.invariant-loop-line
invariant-loop-line g l = record {
  steady : g.W.Sink.failed l.out ≡ g.W.Sink.failed l.initial.out;
  appended : Appends (g.W.Sink.contents l.initial.out) (g.W.Sink.contents l.out) (flat_map line_text (take l.line-index l.lines));
}
