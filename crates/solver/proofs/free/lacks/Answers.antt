use Rattle.std.proofs.Common.{rules, ◌≢◌, pos, get_or, unsigned_abs}
use Rattle.solver.proofs.Looks.{all_more}
use Rattle.solver.proofs.free.lacks.Goals as goal

pub loop-literal-preserved : goal.loop-literal-preserved
loop-literal-preserved c =
    let other : unsigned_abs (get_or c.args.literals.now c.loop-literal.literal-index (pos 0)) ≢ c.args.variable = search rules in
    all_more (λ l. unsigned_abs l ≢ c.args.variable) _ _ (pos 0) c.loop-literal-test.true c.loop-literal.invariant other
