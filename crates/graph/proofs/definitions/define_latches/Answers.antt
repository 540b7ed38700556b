use Rattle.graph.specs.Circuits.{variable}
use Rattle.graph.proofs.Tabled.{StaysCounted-more}
use Rattle.graph.proofs.definitions.define_latches.Goals as goal

pub loop-latch-preserved : goal.loop-latch-preserved
loop-latch-preserved c = StaysCounted-more (λ x. variable x.lit) c.args.latches.now c.loop-latch.latch-index _ _ _ _ c.loop-latch-test.true c.loop-latch.invariant c.define.ensures
