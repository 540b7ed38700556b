use Rattle.wave_signals.proofs.BitLaws.{latch_more}
use Rattle.wave_signals.proofs.bits.latch_literals.Goals as goal

pub loop-latch-preserved : goal.loop-latch-preserved
loop-latch-preserved c = latch_more c.args.latches.now c.loop-latch.latch-index _ _ _ c.loop-latch-test.true c.loop-latch.invariant c.in_ok-push.ensures.items
