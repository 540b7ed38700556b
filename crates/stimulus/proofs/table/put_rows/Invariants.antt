use Rattle.std.proofs.Common.{◌≡◌}
use Rattle.stimulus.specs.Rows.{PutsRows}
use Rattle.stimulus.proofs.table.put_rows.Given as goal

abbrev pub invariant-loop-t : goal.invariant-loop-t
invariant-loop-t g l = record {
  steady : g.W.Sink.failed l.out ≡ g.W.Sink.failed l.initial.out;
  rows : PutsRows l.circuit l.initial.replay.state l.lines l.t l.replay (g.W.Sink.contents l.initial.out) (g.W.Sink.contents l.out);
}
