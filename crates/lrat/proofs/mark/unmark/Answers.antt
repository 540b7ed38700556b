use Rattle.std.proofs.Common.{rules, ◌<◌, ℤ, pos, SFits, w32, get_or, length, unsigned_abs, arith}
use Rattle.lrat.proofs.Fit.{read32}
use Rattle.lrat.proofs.Marked.{unmarked_more}
use Rattle.lrat.proofs.mark.unmark.Goals as goal

pub loop-literal-preserved : goal.loop-literal-preserved
loop-literal-preserved c =
    let x : ℤ = get_or c.args.literals.now c.loop-literal.literal-index (pos 0) in
    let f : SFits w32 x = search rules in
    let at = rw (read32 x f) at c.unsigned_abs.ensures.value in
    let inside : unsigned_abs x < length c.loop-literal.marks.items = omega (arith, c.loop-literal.invariant.places, c.requires c.loop-literal.literal-index (pos 0) c.loop-literal-test.true) in
    rw at (unmarked_more _ _ _ _ c.loop-literal-test.true inside c.loop-literal.invariant)
