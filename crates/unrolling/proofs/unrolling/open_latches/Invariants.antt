use Rattle.unrolling.proofs.Opening.{IsOpening}
use Rattle.unrolling.proofs.unrolling.open_latches.Given as goal

abbrev pub invariant-loop-index : goal.invariant-loop-index
invariant-loop-index l = IsOpening l.circuit l.cone l.initial' l.index
