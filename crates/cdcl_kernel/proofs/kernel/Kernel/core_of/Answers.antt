use Rattle.std.proofs.Common.{ℤ, Vec, Global}
use Rattle.cdcl_kernel.proofs.Judged.{core_option}
use Rattle.cdcl_kernel.proofs.kernel.Kernel.core_of.Goals as goal

pub returns-clause-core : goal.returns-clause-core
returns-clause-core c =
    core_option c.args.self.now c.args.clause.now c.args.hints.now c.args.assume.now (λ (part : Vec ℤ Global). part.items) _ (c.in_ok-shows.ensures.shown.0 c.if-not-branch.false) c.in_ok-part.ensures.denials c.in_ok-part.ensures.assumed
