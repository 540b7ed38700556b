use Rattle.live_safe.proofs.Pushes.{pushed}
use Rattle.extension.proofs.Counters.{opened_more}
use Rattle.extension.proofs.counter.push_opened.Goals as goal

pub loop-i-preserved : goal.loop-i-preserved
loop-i-preserved c = pushed c.loop-i.gates.items c.push.new.to.items _ _ _ _ (c.in_ok-push.ensures.items)
    (rw (c.joins-gate.ensures, c.negative.ensures, c.negation.ensures) (opened_more c.args.ends c.args.wanted.now c.loop-i.i c.args.missing c.args.variable c.loop-i-test.true)) c.loop-i.invariant
