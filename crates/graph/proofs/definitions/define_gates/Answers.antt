use Rattle.graph.specs.Circuits.{variable}
use Rattle.graph.proofs.Tabled.{StaysCounted-more}
use Rattle.graph.proofs.definitions.define_gates.Goals as goal

pub loop-gate-preserved : goal.loop-gate-preserved
loop-gate-preserved c = StaysCounted-more (λ g. variable g.lhs) c.args.gates.now c.loop-gate.gate-index _ _ _ _ c.loop-gate-test.true c.loop-gate.invariant c.define.ensures
