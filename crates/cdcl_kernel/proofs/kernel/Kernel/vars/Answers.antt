use Rattle.std.proofs.Common.{arith}
use Rattle.cdcl_kernel.proofs.kernel.Kernel.vars.Goals as goal

pub returns-clause-fits : goal.returns-clause-fits
returns-clause-fits c = rw (← c.self.view_is, ← c.self.invariant.scratch_vars) (omega (arith, c.vars.ensures.fits))
