use Rattle.witness.proofs.LassoLaws.{Watches}
use Rattle.witness.proofs.lasso.times_to_close.Given as goal

abbrev pub invariant-loop-t : goal.invariant-loop-t
invariant-loop-t l = Watches l.initial.replay.circuit l.initial.replay.state l.lines l.wanted l.t l.replay l.seen l.last
