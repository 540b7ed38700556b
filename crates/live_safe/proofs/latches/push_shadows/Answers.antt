use Rattle.live_safe.proofs.Pushes.{pushed, shadow_more}
use Rattle.live_safe.proofs.latches.push_shadows.Goals as goal

pub loop-i-preserved : goal.loop-i-preserved
loop-i-preserved c = pushed c.loop-i.all.items c.push.new.to.items _ _ _ _ (c.in_ok-push.ensures.items)
    (rw (c.cleared.ensures, c.negative-next.ensures) (shadow_more c.args.latches.now c.loop-i.i c.args.shadow c.args.variable c.loop-i-test.true)) c.loop-i.invariant
