use Rattle.witness.specs.Cutting.{SetsLast}
use Rattle.witness.proofs.CuttingLaws.{Unended}
use Rattle.witness.proofs.cutting.times_to_set.Given as goal

abbrev pub invariant-loop-t : goal.invariant-loop-t
invariant-loop-t l = Unended (SetsLast l.lit) l.initial.replay.circuit l.initial.replay.state l.lines l.t l.replay
