use Rattle.std.proofs.Common.{◌≤◌, length, subst, ◌∙◌, arith}
use Rattle.lrat.proofs.Numbered.{all_next}
use Rattle.certificate.proofs.HeadLaws.{AreSmall}
use Rattle.certificate.proofs.limits.are_short.Goals as goal

pub loop-clause-preserved : goal.loop-clause-preserved
loop-clause-preserved c =
    let xs = c.args.clauses.now in
    let i = c.loop-clause.clause-index in
    let x = c.clause-item.result in
    record {
      short = all_next (λ clause. length clause ≤ 4194303) xs i x c.loop-clause-test.true c.loop-clause.invariant.short
          (subst (λ clause. length clause ≤ 4194303) c.clause-item.is (omega (arith, c.len.ensures, c.if-len-gt-MOST.false)));
      small = all_next AreSmall xs i x c.loop-clause-test.true c.loop-clause.invariant.small (subst AreSmall (c.as_slice.ensures ∙ c.clause-item.is) c.literals_fit.ensures);
    }
