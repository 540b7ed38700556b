use Rattle.std.proofs.Common.{rules, SFits, w32, ◌∙◌, []}
use Rattle.lrat.proofs.Fit.{read32}
use Rattle.cnf.proofs.Made.{map_more}
use Rattle.unrolling.specs.Unrollings.{constant_of}
use Rattle.unrolling.proofs.unrolling.resets.Goals as goal

pub loop-latch-preserved : goal.loop-latch-preserved
loop-latch-preserved c =
    let f : SFits w32 c.constant.result = search rules in
    map_more constant_of c.args.latches.now c.loop-latch.latch-index _ [] c.loop-latch.initial'.items c.push.new.to.items _
    c.loop-latch-test.true c.loop-latch.invariant c.in_ok-push.ensures.items (read32 c.constant.result f ∙ c.constant.ensures)
