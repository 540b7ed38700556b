use Rattle.std.proofs.Common.{arith}
use Rattle.graph.specs.Circuits.{value_of}
use Rattle.simulate.proofs.Taking.{Taken-all}
use Rattle.simulate.proofs.replay.take_over.Goals as goal

pub returns : goal.returns
returns c = Taken-all (λ x. value_of c.args.values.now x.next) c.args.latches.now c.loop-i.state c.loop-i.i
    (record { lit = record { 0 = 0 }; next = record { 0 = 0 }; reset = record { 0 = 0 } }) (omega arith) c.loop-i.invariant
