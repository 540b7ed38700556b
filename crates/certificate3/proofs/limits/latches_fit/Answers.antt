use Rattle.std.proofs.Common.{All, subst}
use Rattle.std.proofs.lemmas.List.{take_all}
use Rattle.certificate3.specs.Texts.{AreLatchWords}
use Rattle.lrat.proofs.Numbered.{all_next}
use Rattle.certificate3.proofs.limits.latches_fit.Goals as goal

pub loop-latch-preserved : goal.loop-latch-preserved
loop-latch-preserved c = all_next AreLatchWords c.args.latches.now c.loop-latch.latch-index (record { lit = record { 0 = 0 }; next = record { 0 = 0 }; reset = record { 0 = 0 } }) c.loop-latch-test.true c.loop-latch.invariant (c.latch_fits.ensures)

pub returns : goal.returns
returns c = subst (All AreLatchWords) (take_all _ _ c.loop-latch-test.false) c.loop-latch.invariant
