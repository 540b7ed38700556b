use Rattle.induction_windows.proofs.Rows.{pushed, row_more}
use Rattle.induction_windows.proofs.history.push_row.Goals as goal

pub loop-index-preserved : goal.loop-index-preserved
loop-index-preserved c = pushed c.loop-index.to.items c.push.new.to.items _ _ _ _ c.in_ok-push.ensures.items
    (rw (c.delayed.ensures, c.literal_of-before.ensures) (row_more c.args.base c.args.depth c.loop-index.index c.loop-index.before c.loop-index-test.true)) c.loop-index.invariant
