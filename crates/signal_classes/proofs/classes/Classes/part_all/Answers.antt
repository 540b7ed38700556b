use Rattle.std.proofs.Common.{◌∙◌}
use Rattle.signal_classes.proofs.classes.Classes.part_all.Goals as goal

pub returns-in_err-run-clause-led : goal.returns-in_err-run-clause-led
returns-in_err-run-clause-led c h = c.compare.ensures.led (c.loop-place.invariant.led h)

pub returns-in_err-run-clause-within : goal.returns-in_err-run-clause-within
returns-in_err-run-clause-within c h = c.compare.ensures.within (c.loop-place.invariant.within h)

pub loop-place-preserved : goal.loop-place-preserved
loop-place-preserved c = record {
  signals = c.compare.ensures.signals ∙ c.loop-place.invariant.signals;
  led = λ h. c.compare.ensures.led (c.loop-place.invariant.led h);
  within = λ h. c.compare.ensures.within (c.loop-place.invariant.within h);
}
