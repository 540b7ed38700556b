use Rattle.std.proofs.Common.{rules, ◌≡◌, [], None, refl, subst, ◌∙◌}
use Rattle.certificate3.specs.Texts.{SpellsCertificate}
use Rattle.checker3.specs.Judged.{IsJudged}
use Rattle.certify3.proofs.judging.is_accepted.Goals as goal

pub returns-in-Ok-clause-accepted : goal.returns-in-Ok-clause-accepted
returns-in-Ok-clause-accepted c told =
    let (ys, before, (d, spelled, named, judged)) = c.in-Ok.ensures.says [] c.check_source.new.from refl in
    let accepted : c.in-Ok.outcome.refusal ≡ None = search rules in
    record {
      certificate = d;
      spelled = subst (λ t. SpellsCertificate t d) (before ∙ c.new.ensures) spelled;
      accepted = subst (IsJudged c.args.circuit.now d) accepted judged;
    }
