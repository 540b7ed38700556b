use Rattle.std.proofs.Common.{rules, refl, subst, All, pos}
use Rattle.std.proofs.lemmas.List.{take_all}
use Rattle.lrat.specs.Limits.{IsHint}
use Rattle.lrat.proofs.Numbered.{all_next}
use Rattle.lrat.proofs.proof.are_hints.Goals as goal

pub returns : goal.returns
returns c = (λ _. subst (All IsHint) (take_all _ _ c.loop-hint-test.false) c.loop-hint.invariant, λ _. refl)

pub loop-hint-preserved : goal.loop-hint-preserved
loop-hint-preserved c = all_next IsHint _ _ (pos 0) c.loop-hint-test.true c.loop-hint.invariant (search rules)
