use Rattle.std.proofs.Common.{refl}
use Rattle.solver.proofs.Looks.{all_more, all_whole}
use Rattle.solver.specs.Values.{IsAndBy}
use Rattle.solver.proofs.values.fits_gates.Goals as goal

pub loop-gate-preserved : goal.loop-gate-preserved
loop-gate-preserved c = all_more (IsAndBy c.args.values.now) _ _ _ c.loop-gate-test.true c.loop-gate.invariant (c.fits_gate.ensures.0 c.if-not-fits_gate.false)

pub returns : goal.returns
returns c = (λ e. all_whole (IsAndBy c.args.values.now) _ _ c.loop-gate-test.false c.loop-gate.invariant, λ all. refl)
