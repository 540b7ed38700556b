use Rattle.std.proofs.Common.{◌≡◌, Some, length}
use Rattle.graph.specs.Circuits.{Valuation}
use Rattle.stimulus.proofs.LassoLaws.{Marked}
use Rattle.wave_signals.proofs.loops.mark.Given as goal

abbrev pub invariant-loop-k : goal.invariant-loop-k
invariant-loop-k l = record {
  long : length l.marks ≡ length l.initial.marks;
  marked : (w : Valuation) → l.replay.now ≡ Some w → Marked l.wanted w l.k l.initial.marks l.marks;
}
