use Rattle.std.proofs.Common.{◌≡◌, Some, take}
use Rattle.std.specs.List.{flat_map}
use Rattle.std.specs.Io.KnownBytes.{Appends}
use Rattle.graph.specs.Circuits.{Valuation, value_of}
use Rattle.stimulus.specs.Texts.{value_text}
use Rattle.stimulus.proofs.table.put_literals.Given as goal

abbrev pub invariant-loop-lit : goal.invariant-loop-lit
invariant-loop-lit g l = record {
  steady : g.W.Sink.failed l.out ≡ g.W.Sink.failed l.initial.out;
  appended : (w : Valuation) → l.replay.now ≡ Some w → Appends (g.W.Sink.contents l.initial.out) (g.W.Sink.contents l.out) (flat_map (λ a. value_text (value_of w a)) (take l.lit-index l.lits));
}
