use Rattle.live_safe.proofs.Pushes.{pushed, seen_more}
use Rattle.live_safe.proofs.latches.push_seens.Goals as goal

pub loop-k-preserved : goal.loop-k-preserved
loop-k-preserved c = pushed c.loop-k.all.items c.push.new.to.items _ _ _ _ (c.in_ok-push.ensures.items)
    (rw (c.cleared.ensures, c.positive-next.ensures) (seen_more c.args.wanted.now c.loop-k.k c.args.seen c.args.variable c.loop-k-test.true)) c.loop-k.invariant
