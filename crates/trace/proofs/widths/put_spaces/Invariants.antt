use Rattle.std.proofs.Common.{◌≡◌}
use Rattle.std.specs.Io.KnownBytes.{Appends}
use Rattle.trace.specs.Widths.{spaces}
use Rattle.trace.proofs.widths.put_spaces.Given as goal

abbrev pub invariant-loop-space : goal.invariant-loop-space
invariant-loop-space g l = record {
  steady : g.W.Sink.failed l.out ≡ g.W.Sink.failed l.initial.out;
  put : Appends (g.W.Sink.contents l.initial.out) (g.W.Sink.contents l.out) (spaces l._space);
}
