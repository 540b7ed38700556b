use Rattle.std.proofs.Common.{◌≡◌, Some, length}
use Rattle.graph.specs.Circuits.{Valuation}
use Rattle.witness.proofs.LassoLaws.{Noted}
use Rattle.witness.proofs.lasso.note_set.Given as goal

abbrev pub invariant-loop-k : goal.invariant-loop-k
invariant-loop-k l = record {
  long : length l.last ≡ length l.initial.last;
  noted : (w : Valuation) → l.replay.now ≡ Some w → Noted l.wanted w l.passed l.k l.initial.last l.last;
}
