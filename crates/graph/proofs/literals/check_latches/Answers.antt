use Rattle.std.proofs.Common.{◌^◌}
use Rattle.graph.specs.Uses.{latch_uses}
use Rattle.graph.proofs.Blank.{blank_latch}
use Rattle.graph.proofs.Going.{GoesOn-told, GoesOn-more, GoesOn-stops, GoesOn-room}
use Rattle.graph.proofs.literals.check_latches.Goals as goal

pub check_latch-requires-clause-few : goal.check_latch-requires-clause-few
check_latch-requires-clause-few c =
    GoesOn-room _ _ _ (2 ^ 60) latch_uses c.args.latches.now c.loop-latch.latch-index blank_latch c.loop-latch-test.true c.loop-latch.invariant c.requires.few

pub returns-in_err-count : goal.returns-in_err-count
returns-in_err-count c =
    GoesOn-told _ _ _ _ _ c.from_residual.ensures.1
    (GoesOn-stops _ _ _ latch_uses c.args.latches.now c.loop-latch.latch-index blank_latch _ c.loop-latch-test.true c.loop-latch.invariant c.in_err-count.ensures)

pub loop-latch-preserved : goal.loop-latch-preserved
loop-latch-preserved c =
    GoesOn-more _ _ _ _ latch_uses c.args.latches.now c.loop-latch.latch-index blank_latch c.loop-latch-test.true c.loop-latch.invariant c.in_ok-count.ensures
