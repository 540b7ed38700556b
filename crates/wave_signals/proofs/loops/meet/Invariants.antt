use Rattle.stimulus.proofs.LassoLaws.{Unmet}
use Rattle.wave_signals.proofs.loops.meet.Given as goal

abbrev pub invariant-loop-i : goal.invariant-loop-i
invariant-loop-i l = Unmet l.initial.replay.circuit l.initial.replay.state l.lines l.closing l.i l.replay
