use Rattle.std.proofs.Common.{rules, ◌∙◌, ℤ, pos, SFits, w32, get_or, arith, ap}
use Rattle.std.proofs.lemmas.List.{take_all}
use Rattle.lrat.proofs.Fit.{read32}
use Rattle.cdcl_kernel.specs.Valued.{valued}
use Rattle.cdcl_kernel.proofs.Valued.{last_values, valued_more, valued_same}
use Rattle.cdcl_kernel.proofs.values.values_of.Goals as goal
use Rattle.cdcl_kernel.proofs.values.values_of.Goals.{then-index-len, else-index-len}

pub loop-literal-preserved : goal.loop-literal-preserved
loop-literal-preserved c =
    let x : ℤ = get_or c.args.literals.now c.loop-literal.literal-index (pos 0) in
    let f : SFits w32 x = search rules in
    let at = rw (read32 x f) at c.unsigned_abs-index.ensures.value in
    elim c.if-index-len.branch [
      | then-index-len w ↦ rw (w.values-is, at, read32 x f) (valued_more c.args.vars c.args.literals.now c.loop-literal.literal-index c.loop-literal.values.items c.loop-literal-test.true c.loop-literal.invariant)
      | else-index-len w ↦ rw w.values-is (valued_same c.args.vars c.args.literals.now c.loop-literal.literal-index c.loop-literal.values.items c.loop-literal-test.true (omega (arith, at, w.if-index-len.false)) c.loop-literal.invariant)
    ]

pub returns-clause-value : goal.returns-clause-value
returns-clause-value c = c.loop-literal.invariant ∙ ap (valued c.args.vars) (take_all _ c.args.literals.now c.loop-literal-test.false)

pub returns-clause-last : goal.returns-clause-last
returns-clause-last c = last_values _ _ _ (c.loop-literal.invariant ∙ ap (valued c.args.vars) (take_all _ c.args.literals.now c.loop-literal-test.false))
