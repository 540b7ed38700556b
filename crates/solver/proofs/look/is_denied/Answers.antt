use Rattle.std.proofs.Common.{rules, ℤ, pos, SFits, w32, get_or}
use Rattle.std.proofs.lemmas.Int.{to_z-of_z}
use Rattle.solver.specs.Branches.{IsFalse}
use Rattle.solver.proofs.Looks.{all_more, all_whole}
use Rattle.solver.proofs.look.is_denied.Goals as goal

pub loop-literal-preserved : goal.loop-literal-preserved
loop-literal-preserved c =
    let x : ℤ = get_or c.args.clause.now c.loop-literal.literal-index (pos 0) in
    let f : SFits w32 x = search rules in
    all_more (IsFalse c.args.values.now) _ _ _ c.loop-literal-test.true c.loop-literal.invariant (rw (to_z-of_z w32 x f) at (c.is_false.ensures.0 c.if-not-is_false.false))

pub returns : goal.returns
returns c = (λ _. all_whole (IsFalse c.args.values.now) _ _ c.loop-literal-test.false c.loop-literal.invariant, λ _. search rules)
