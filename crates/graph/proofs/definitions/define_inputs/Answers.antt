use Rattle.graph.specs.Circuits.{variable}
use Rattle.graph.proofs.Tabled.{StaysCounted-more}
use Rattle.graph.proofs.definitions.define_inputs.Goals as goal

pub loop-lit-preserved : goal.loop-lit-preserved
loop-lit-preserved c = StaysCounted-more variable c.args.inputs.now c.loop-lit.lit-index _ _ _ _ c.loop-lit-test.true c.loop-lit.invariant c.define.ensures
