use Rattle.graph.specs.Circuits.{value_of}
use Rattle.simulate.proofs.Taking.{Taken}
use Rattle.simulate.proofs.replay.take_over.Given as goal

abbrev pub invariant-loop-i : goal.invariant-loop-i
invariant-loop-i l = Taken (λ x. value_of l.values x.next) l.latches l.state l.i
