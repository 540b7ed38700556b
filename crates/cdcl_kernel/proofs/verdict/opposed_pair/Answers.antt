use Rattle.std.proofs.Common.{rules, ℤ, SFits, w32, get_or, pos, Contains, IsTrue, ◌↔◌}
use Rattle.std.proofs.lemmas.List.Elements.{Contains-get_or}
use Rattle.lrat.proofs.Fit.{read32, not_true}
use Rattle.solver.proofs.Looks.{all_more, all_whole}
use Rattle.cdcl_kernel.specs.Verdicts.{IsOpposed}
use Rattle.cdcl_kernel.proofs.Judged.{in_sorted}
use Rattle.cdcl_kernel.proofs.verdict.opposed_pair.Goals as goal

pub returns-then-has_literal : goal.returns-then-has_literal
returns-then-has_literal c =
    let x : ℤ = get_or c.args.assume.now c.loop-literal.literal-index (pos 0) in
    let f : SFits w32 x = search rules in
    let g : SFits w32 c.negated.result = search rules in
    let found : IsTrue c.has_literal.result ↔ Contains c.args.assume.now c.negated.result =
    in_sorted _ _ _ _ c.in_ok-sorted.ensures.same (rw (c.as_slice.ensures.value, read32 c.negated.result g) at c.has_literal.ensures) in
    let at = rw (c.negated.ensures, read32 x f) at (found.0 c.if-has_literal.true) in
    rw (read32 x f) (Contains-get_or c.args.assume.now c.loop-literal.literal-index (pos 0) c.loop-literal-test.true, at)

pub loop-literal-preserved : goal.loop-literal-preserved
loop-literal-preserved c =
    let x : ℤ = get_or c.args.assume.now c.loop-literal.literal-index (pos 0) in
    let f : SFits w32 x = search rules in
    let g : SFits w32 c.negated.result = search rules in
    let found : IsTrue c.has_literal.result ↔ Contains c.args.assume.now c.negated.result =
    in_sorted _ _ _ _ c.in_ok-sorted.ensures.same (rw (c.as_slice.ensures.value, read32 c.negated.result g) at c.has_literal.ensures) in
    all_more (λ l. IsOpposed c.args.assume.now l → ⊥) _ _ (pos 0) c.loop-literal-test.true c.loop-literal.invariant
    (λ o. not_true found.1 c.if-has_literal.false (rw (c.negated.ensures, read32 x f) o.1))

pub returns : goal.returns
returns c = all_whole (λ l. IsOpposed c.args.assume.now l → ⊥) _ _ c.loop-literal-test.false c.loop-literal.invariant
