use Rattle.std.proofs.Common.{rules, ℤ, SFits, w32, get_or, pos, Contains, IsTrue, ◌↔◌}
use Rattle.std.proofs.lemmas.List.Elements.{All-push}
use Rattle.lrat.proofs.Fit.{read32, not_true}
use Rattle.lrat.proofs.Proper.{denials_at}
use Rattle.cdcl_kernel.proofs.Judged.{in_sorted, denied_at}
use Rattle.cdcl_kernel.proofs.verdict.assumed_part.Goals as goal

pub loop-literal-preserved : goal.loop-literal-preserved
loop-literal-preserved c =
    let x : ℤ = get_or c.args.clause.now c.loop-literal.literal-index (pos 0) in
    let f : SFits w32 x = search rules in
    let g : SFits w32 c.negated-denial.result = search rules in
    let found : IsTrue c.has_literal.result ↔ Contains c.args.assume.now c.negated-denial.result =
    in_sorted _ _ _ _ c.in_ok-sorted.ensures.same (rw (c.as_slice.ensures.value, read32 c.negated-denial.result g) at c.has_literal.ensures) in
    record {
      denials = rw (c.in_ok-push.ensures.items, read32 c.negated-denial.result g, c.negated-denial.ensures, read32 x f) (denials_at _ _ _ c.loop-literal-test.true c.loop-literal.invariant.denials);
      assumed = rw (c.in_ok-push.ensures.items, read32 c.negated-denial.result g) (All-push (Contains c.args.assume.now) _ _ c.loop-literal.invariant.assumed (found.0 c.if-not-has_literal.false));
    }

pub returns-then-not-has_literal-clause-denials : goal.returns-then-not-has_literal-clause-denials
returns-then-not-has_literal-clause-denials c = λ all.
    let x : ℤ = get_or c.args.clause.now c.loop-literal.literal-index (pos 0) in
    let f : SFits w32 x = search rules in
    let g : SFits w32 c.negated-denial.result = search rules in
    let found : IsTrue c.has_literal.result ↔ Contains c.args.assume.now c.negated-denial.result =
    in_sorted _ _ _ _ c.in_ok-sorted.ensures.same (rw (c.as_slice.ensures.value, read32 c.negated-denial.result g) at c.has_literal.ensures) in
    not_true found.1 c.if-not-has_literal.true (rw (c.negated-denial.ensures, read32 x f) (denied_at _ _ _ c.loop-literal-test.true all))
