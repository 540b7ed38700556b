use Rattle.stimulus.proofs.LassoLaws.{Gathered}
use Rattle.wave_signals.proofs.loops.gather.Given as goal

abbrev pub invariant-loop-line : goal.invariant-loop-line
invariant-loop-line l = Gathered l.initial.replay.circuit l.initial.replay.state l.lines l.wanted l.initial.marks l.marks l.line-index l.replay
