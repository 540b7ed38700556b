use Rattle.std.proofs.Common.{◌≤◌, All, length, refl, subst, ap, arith}
use Rattle.lrat.specs.Limits.{IsLine}
use Rattle.certificate.proofs.HeadLaws.{AreSmall}
use Rattle.certificate.proofs.limits.check.Goals as goal

pub returns-clause-ok : goal.returns-clause-ok
returns-clause-ok c =
    let clauses = c.as_slice-clauses.ensures in
    let sections = c.as_slice-sections.ensures in
    record {
      sections = omega (arith, ap length clauses, ap length sections, c.if-sections-clauses.false);
      few = omega (arith, ap length clauses, c.if-clauses-gt-MOST.false);
      short = subst (All (λ clause. length clause ≤ 4194303)) clauses (c.if-not-are_short.ensures.short.0 refl);
      position = rw (← c.position-position.ensures) c.position-position.type_inv;
      literals = subst (All AreSmall) clauses (c.if-not-are_short.ensures.small refl);
      lemmas = c.lemmas_fit.ensures;
      lines = subst (All (All IsLine)) sections c.lines_fit.ensures;
    }
