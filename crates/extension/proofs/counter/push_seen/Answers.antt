use Rattle.live_safe.proofs.Pushes.{pushed}
use Rattle.extension.proofs.Counters.{seen_more}
use Rattle.extension.proofs.counter.push_seen.Goals as goal

pub loop-i-preserved : goal.loop-i-preserved
loop-i-preserved c = pushed c.loop-i.latches.items c.push.new.to.items _ _ _ _ (c.in_ok-push.ensures.items)
    (rw (c.cleared.ensures, c.positive-next.ensures) (seen_more c.args.wanted.now c.loop-i.i c.args.seen c.args.variable c.loop-i-test.true)) c.loop-i.invariant
