use Rattle.std.proofs.Common.{◌≡◌, None, Some, rules, subst}
use Rattle.verdict.specs.Reasons.{reason_of}
use Rattle.verdict.proofs.Asked.{all_told, ends_here, rest_more, told_more, why_unknown}
use Rattle.verdict.proofs.Answered.{weightier_why}
use Rattle.verdict.proofs.deciding.verdict_of_each.Goals as goal

pub loop-engine-preserved : goal.loop-engine-preserved
loop-engine-preserved g c =
    let unknown : reason_of c.verdict_of-answer.result ≡ Some c.in-Some.found = subst (λ o. o ≡ Some c.in-Some.found) c.reason.ensures c.in-Some.is in
    record {
      spends = search rules;
      none = search rules;
      stays = search rules;
      meant = λ all above. weightier_why c.args.circuit.now c.args.property c.loop-engine.engine-index c.loop-engine.budget c.verdict_of-answer.new.budget c.loop-engine.told c.in-Some.found c.weightier-told.result c.verdict_of-answer.ensures.spends
          (λ at. (c.loop-engine.invariant.none at).1) (λ after. c.loop-engine.invariant.meant all after)
          (why_unknown c.args.circuit.now c.args.property c.verdict_of-answer.new.budget c.verdict_of-answer.result c.in-Some.found unknown (c.verdict_of-answer.ensures.meant (search rules))) c.weightier-told.ensures;
      answered = told_more _ _ _ _ c.loop-engine.engines c.loop-engine.engine-index c.engine-item.result _ c.loop-engine.told c.in-Some.found c.weightier-told.result c.verdict_of-answer.result
          c.args.budget.now c.loop-engine.budget c.verdict_of-answer.new.budget c.loop-engine.invariant.behind c.loop-engine-test.true c.loop-engine.invariant.answered c.verdict_of-answer.ensures.answered unknown c.weightier-told.ensures;
      behind = rest_more _ c.loop-engine.engines c.loop-engine.engine-index c.verdict_of-answer.new.engine c.loop-engine.invariant.behind;
    }

pub returns-in-None-clause-asked : goal.returns-in-None-clause-asked
returns-in-None-clause-asked g c =
    ends_here _ _ _ _ c.loop-engine.engines c.loop-engine.engine-index c.engine-item.result c.verdict_of-answer.new.engine c.loop-engine.told c.verdict_of-answer.result
    c.args.budget.now c.loop-engine.budget c.verdict_of-answer.new.budget c.loop-engine.invariant.behind c.loop-engine-test.true c.loop-engine.invariant.answered c.verdict_of-answer.ensures.answered
    (subst (λ o. o ≡ None) c.reason.ensures c.in-None.is)

pub returns-clause-asked : goal.returns-clause-asked
returns-clause-asked g c =
    all_told _ _ _ _ _ c.loop-engine.engine-index c.loop-engine.told c.args.budget.now c.loop-engine.budget c.loop-engine-test.false c.loop-engine.invariant.answered
