use Rattle.verdict.proofs.Answered.{asked_there}
use Rattle.verdict.proofs.Certifying.{IsVerdictOn, verdict_on_law}
use Rattle.verdict.proofs.asking.of_clauses.Goals as goal

pub returns : goal.returns
returns c =
    let law : IsVerdictOn c.args.circuit.now c.args.property c.args.invariant.now c.certificate_of.new.budget c.of_certified.result =
    verdict_on_law c.args.circuit.now c.args.property c.args.invariant.now c.certificate_of.new.budget c.certificate_of.result c.of_certified.result c.of_certified.ensures (record {
      formed = c.well_formed-2.ensures;
      there = asked_there _ _ _ c.requires.asked;
      certified = c.certificate_of.ensures.certified;
      honest = c.certificate_of.ensures.honest;
      refused = c.certificate_of.ensures.refused;
    }) in
    record {
      spends = c.certificate_of.ensures.spends;
      backed = law.backed;
      meant = law.meant;
      comes = law.comes;
      stopped = law.stopped;
      refused = law.refused;
    }
