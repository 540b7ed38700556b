use Rattle.stimulus.proofs.PlaySteps.{Playing}
use Rattle.stimulus.proofs.playing.play.Given as goal

abbrev pub invariant-loop-t : goal.invariant-loop-t
invariant-loop-t l = Playing l.initial.replay.circuit l.initial.replay.state l.lines l.t l.replay
