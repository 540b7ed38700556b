use Rattle.graph.specs.Circuits.{variable}
use Rattle.graph.proofs.Tabled.{StaysMarked-more_of}
use Rattle.graph.proofs.definitions.mention_right.Goals as goal

pub loop-gate-preserved : goal.loop-gate-preserved
loop-gate-preserved c = rw c.variable.ensures (StaysMarked-more_of variable (λ g. g.rhs1) c.args.gates.now c.loop-gate.gate-index _ _ _ c.loop-gate-test.true c.requires c.loop-gate.invariant)
