use Rattle.std.proofs.Common.{rules, SFits, w32, ◌∙◌, []}
use Rattle.lrat.proofs.Fit.{read32}
use Rattle.cnf.proofs.Made.{map_more}
use Rattle.unrolling.specs.Unrollings.{literal_at}
use Rattle.unrolling.proofs.unrolling.first_state.Goals as goal

pub loop-position-preserved : goal.loop-position-preserved
loop-position-preserved c =
    let f : SFits w32 c.entry.result = search rules in
    map_more (literal_at c.args.initial.now) c.deref-position-items.result.now c.loop-position.position-index _ [] c.loop-position.state.items c.push.new.to.items _
    c.loop-position-test.true c.loop-position.invariant c.in_ok-push.ensures.items (read32 c.entry.result f ∙ c.entry.ensures)
