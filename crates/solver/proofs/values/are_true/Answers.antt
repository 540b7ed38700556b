use Rattle.std.proofs.Common.{rules, ◌≡◌, ℤ, pos, SFits, w32, get_or, true, refl, sym, ◌∙◌}
use Rattle.lrat.proofs.Fit.{read32}
use Rattle.solver.proofs.Looks.{all_more, all_whole}
use Rattle.solver.specs.Values.{true_by}
use Rattle.solver.proofs.values.are_true.Goals as goal

pub loop-literal-preserved : goal.loop-literal-preserved
loop-literal-preserved c =
    let x : ℤ = get_or c.args.literals.now c.loop-literal.literal-index (pos 0) in
    let f : SFits w32 x = search rules in
    let now = rw (read32 x f) at c.is_true.ensures in
    all_more (λ l. true_by c.args.values.now l ≡ true) _ _ (pos 0) c.loop-literal-test.true c.loop-literal.invariant (sym now ∙ c.if-not-is_true.false)

pub returns : goal.returns
returns c = (λ e. all_whole (λ l. true_by c.args.values.now l ≡ true) _ _ c.loop-literal-test.false c.loop-literal.invariant, λ all. refl)
