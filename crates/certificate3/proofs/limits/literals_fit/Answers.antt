use Rattle.std.proofs.Common.{All, subst}
use Rattle.std.proofs.lemmas.List.{take_all}
use Rattle.certificate3.specs.Texts.{IsWord}
use Rattle.lrat.proofs.Numbered.{all_next}
use Rattle.certificate3.proofs.limits.literals_fit.Goals as goal

pub loop-literal-preserved : goal.loop-literal-preserved
loop-literal-preserved c = all_next IsWord c.args.literals.now c.loop-literal.literal-index (record { 0 = 0 }) c.loop-literal-test.true c.loop-literal.invariant (rw (← c.number-number.ensures) c.number-number.type_inv)

pub returns : goal.returns
returns c = subst (All IsWord) (take_all _ _ c.loop-literal-test.false) c.loop-literal.invariant
