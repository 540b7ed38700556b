use Rattle.std.proofs.Common.{rules, SFits, w32, ◌∙◌, ◌∷◌, [], neg_ℤ}
use Rattle.lrat.proofs.Fit.{read32}
use Rattle.cnf.proofs.Made.{map_more}
use Rattle.ic3_step.specs.Contents.{guard_literal, state_literal}
use Rattle.ic3_step.proofs.encoding.guarded.Goals as goal

pub loop-lit-preserved : goal.loop-lit-preserved
loop-lit-preserved c =
    let m = c.args.circuit.now in
    let f : SFits w32 c.state_literal.result = search rules in
    map_more (state_literal m) c.args.clause.now c.loop-lit.lit-index _ (neg_ℤ (guard_literal m c.args.guard) ∷ []) c.loop-lit.literals.items c.push-in-loop-lit.new.to.items _
    c.loop-lit-test.true c.loop-lit.invariant c.in_ok-push-2.ensures.items (read32 c.state_literal.result f ∙ c.state_literal.ensures)
