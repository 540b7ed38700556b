use Rattle.live_safe.proofs.Pushes.{pushed}
use Rattle.extension.proofs.Counters.{met_more}
use Rattle.extension.proofs.counter.met.Goals as goal

pub loop-i-preserved : goal.loop-i-preserved
loop-i-preserved c = pushed c.loop-i.lits.items c.push.new.to.items _ _ _ _ (c.in_ok-push.ensures.items)
    (rw c.negative.ensures (met_more c.args.wanted.now c.loop-i.i c.args.missing c.loop-i-test.true)) c.loop-i.invariant
