use Rattle.graph.specs.Circuits.{variable}
use Rattle.graph.proofs.Tabled.{StaysMarked-more_of}
use Rattle.graph.proofs.definitions.mention_next.Goals as goal

pub loop-latch-preserved : goal.loop-latch-preserved
loop-latch-preserved c = rw c.variable.ensures (StaysMarked-more_of variable (λ x. x.next) c.args.latches.now c.loop-latch.latch-index _ _ _ c.loop-latch-test.true c.requires c.loop-latch.invariant)
