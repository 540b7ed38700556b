use Rattle.std.proofs.Common.{rules, refl, subst, All}
use Rattle.std.proofs.lemmas.List.{take_all}
use Rattle.lrat.specs.Limits.{IsId}
use Rattle.lrat.proofs.Numbered.{all_next}
use Rattle.lrat.proofs.proof.are_ids.Goals as goal

pub returns : goal.returns
returns c = (λ _. subst (All IsId) (take_all _ _ c.loop-id-test.false) c.loop-id.invariant, λ _. refl)

pub loop-id-preserved : goal.loop-id-preserved
loop-id-preserved c = all_next IsId _ _ 0 c.loop-id-test.true c.loop-id.invariant (search rules)
