use Rattle.std.proofs.Common.{rules, ℤ, pos, SFits, w32, get_or}
use Rattle.lrat.proofs.Fit.{read32, not_true}
use Rattle.solver.specs.Branches.{IsFalse}
use Rattle.solver.proofs.Looks.{all_more}
use Rattle.solver.proofs.look.false_assumption.Goals as goal

pub loop-literal-preserved : goal.loop-literal-preserved
loop-literal-preserved c =
    let x : ℤ = get_or c.args.assume.now c.loop-literal.literal-index (pos 0) in
    let f : SFits w32 x = search rules in
    all_more (λ y. IsFalse c.args.values.now y → ⊥) _ _ (pos 0) c.loop-literal-test.true c.loop-literal.invariant (rw (read32 x f) at (not_true c.is_false.ensures.1 c.if-is_false.false))
