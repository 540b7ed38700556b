use Rattle.std.proofs.Common.{◌≡◌, take}
use Rattle.std.specs.Prelude.{flat_map}
use Rattle.std.specs.Io.KnownBytes.{Appends}
use Rattle.certificate3.specs.Texts.{gate_line}
use Rattle.certificate3.proofs.writing.put_gates.Given as goal

abbrev pub invariant-loop-gate : goal.invariant-loop-gate
invariant-loop-gate g l = record {
  steady : g.W.Sink.failed l.out ≡ g.W.Sink.failed l.initial.out;
  appended : Appends (g.W.Sink.contents l.initial.out) (g.W.Sink.contents l.out) (flat_map gate_line (take l.gate-index l.gates));
}
