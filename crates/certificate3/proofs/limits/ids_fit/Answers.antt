use Rattle.std.proofs.Common.{◌<◌, All, ℕ, subst}
use Rattle.std.proofs.lemmas.List.{take_all}
use Rattle.lrat.proofs.Numbered.{all_next}
use Rattle.certificate3.proofs.limits.ids_fit.Goals as goal

pub loop-id-preserved : goal.loop-id-preserved
loop-id-preserved c = all_next (λ (n : ℕ). n < 4294967296) c.args.ids.now c.loop-id.id-index (0) c.loop-id-test.true c.loop-id.invariant (rw (← c.word-word.ensures) c.word-word.type_inv)

pub returns : goal.returns
returns c = subst (All (λ (n : ℕ). n < 4294967296)) (take_all _ _ c.loop-id-test.false) c.loop-id.invariant
