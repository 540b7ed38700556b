use Rattle.graph.specs.Circuits.{variable}
use Rattle.graph.proofs.Tabled.{StaysMarked-more}
use Rattle.graph.proofs.definitions.mention.Goals as goal

pub loop-lit-preserved : goal.loop-lit-preserved
loop-lit-preserved c = rw c.variable.ensures (StaysMarked-more variable c.args.lits.now c.loop-lit.lit-index _ _ _ c.loop-lit-test.true c.requires c.loop-lit.invariant)
