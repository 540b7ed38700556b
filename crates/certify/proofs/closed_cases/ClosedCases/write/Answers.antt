use Rattle.std.proofs.Common.{refl, subst}
use Rattle.cdcl_log.specs.Closings.{AreLemmas}
use Rattle.lrat.specs.Lemmas.{base_at}
use Rattle.certify.proofs.Closed.{units_of}
use Rattle.certify.proofs.closed_cases.ClosedCases.write.Goals as goal

pub lemmas-requires : goal.lemmas-requires
lemmas-requires c = rw c.as_slice.ensures (units_of c.args.self.now c.requires.closed)

pub write_sections-requires-clause-counted : goal.write_sections-requires-clause-counted
write_sections-requires-clause-counted c = c.in_ok-lemmas.ensures.lemmas.counted

pub returns : goal.returns
returns c =
    let s = c.args.self.now in
    let l : AreLemmas s.refuter s.closings c.in_ok-lemmas.lemmas = subst (λ ks. AreLemmas s.refuter ks c.in_ok-lemmas.lemmas) c.as_slice.ensures c.in_ok-lemmas.ensures.lemmas in
    record {
      proved = (base_at s.refuter.formula.vars l.reached, (l.reached, l.in_limits, l.extends, refl), c.in_ok-write_sections.ensures.proved (base_at s.refuter.formula.vars l.reached) l.sections);
    }
