use Rattle.extension.proofs.Counters.{pushed_two, stages_more}
use Rattle.extension.proofs.counter.push_stages.Goals as goal

pub loop-i-preserved : goal.loop-i-preserved
loop-i-preserved c = pushed_two c.loop-i.gates.items c.push.new.to.items c.push-in-loop-i.new.to.items _ _ _ _ _ (c.in_ok-push.ensures.items) (c.in_ok-push-2.ensures.items)
    (rw (c.joins.ensures, c.joins-neither.ensures, c.negative.ensures, c.negative-in-loop-i.ensures, c.positive-before.ensures)
    (stages_more c.args.ends c.args.stages c.loop-i.i c.loop-i.before c.args.count c.args.variable c.loop-i-test.true)) c.loop-i.invariant
