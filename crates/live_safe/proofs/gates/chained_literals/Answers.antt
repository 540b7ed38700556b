use Rattle.std.proofs.Common.{arith}
use Rattle.live_safe.proofs.Pushes.{pushed, equal_more, seen_lit_more}
use Rattle.live_safe.proofs.gates.chained_literals.Goals as goal

pub loop-i-preserved : goal.loop-i-preserved
loop-i-preserved c = λ ls long. pushed c.loop-i.lits.items c.push.new.to.items _ _ _ _ (c.in_ok-push.ensures.items)
    (rw c.positive.ensures (equal_more ls c.loop-i.i c.args.copies (omega arith))) (c.loop-i.invariant ls long)

pub loop-k-preserved : goal.loop-k-preserved
loop-k-preserved c = λ ls qs long wide. pushed c.loop-k.lits.items c.push-in-loop-k.new.to.items _ _ _ _ (c.in_ok-push-2.ensures.items)
    (rw c.positive-in-loop-k.ensures (seen_lit_more qs c.loop-k.k c.args.seen (omega arith))) (c.loop-k.invariant ls qs long wide)
