use Rattle.std.proofs.Common.{rules, SFits, w32, ◌∙◌, refl}
use Rattle.lrat.proofs.Fit.{read32}
use Rattle.cnf.specs.Clauses.{literal}
use Rattle.cnf.proofs.Made.{map_more}
use Rattle.ic3_step.proofs.asking.push_lits.Goals as goal

pub loop-lit-preserved : goal.loop-lit-preserved
loop-lit-preserved c =
    let f : SFits w32 c.literal.result = search rules in
    map_more (literal c.args.circuit.now.max_var 0) c.args.lits.now c.loop-lit.lit-index (record { 0 = 0 }) c.args.literals.now.items c.loop-lit.literals.items c.push.new.to.items _
    c.loop-lit-test.true c.loop-lit.invariant c.in_ok-push.ensures.items (read32 c.literal.result f ∙ c.literal.ensures ∙ rw (c.first-time.ensures.max_var, c.first-time.ensures.offset) refl)
