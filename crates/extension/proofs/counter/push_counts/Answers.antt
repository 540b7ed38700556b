use Rattle.live_safe.proofs.Pushes.{pushed}
use Rattle.extension.proofs.Counters.{counts_more}
use Rattle.extension.proofs.counter.push_counts.Goals as goal

pub loop-i-preserved : goal.loop-i-preserved
loop-i-preserved c = pushed c.loop-i.latches.items c.push.new.to.items _ _ _ _ (c.in_ok-push.ensures.items)
    (rw (c.cleared.ensures, c.negative-next.ensures) (counts_more c.args.stages c.loop-i.i c.args.count c.args.variable c.loop-i-test.true)) c.loop-i.invariant
