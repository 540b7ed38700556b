use Rattle.std.proofs.Common.{rules, SFits, w32, ◌∙◌}
use Rattle.lrat.proofs.Fit.{read32}
use Rattle.cnf.specs.Clauses.{denial}
use Rattle.cnf.proofs.Made.{map_more}
use Rattle.cnf.proofs.push.push_denials.Goals as goal

pub loop-lit-preserved : goal.loop-lit-preserved
loop-lit-preserved c =
    let f : SFits w32 c.denial.result = search rules in
    map_more (denial c.args.time.max_var c.args.time.offset) c.args.lits.now c.loop-lit.lit-index _ c.args.literals.now.items c.loop-lit.literals.items c.push.new.to.items _
    c.loop-lit-test.true c.loop-lit.invariant c.in_ok-push.ensures.items (read32 c.denial.result f ∙ c.denial.ensures)
