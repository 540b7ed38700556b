use Rattle.std.proofs.Common.{rules, SFits, w32}
use Rattle.lrat.proofs.Fit.{read32}
use Rattle.cdcl_kernel.specs.Kept.{added}
use Rattle.cdcl_kernel.proofs.Judged.{core_opposed}
use Rattle.cdcl_kernel.proofs.kernel.Kernel.opposed_of.Goals as goal

pub returns-clause-core : goal.returns-clause-core
returns-clause-core c =
    let f : SFits w32 c.in-Some.literal = search rules in
    let g : SFits w32 c.negated.result = search rules in
    let opposed = rw c.in-Some.is at c.in_ok-literal.ensures in
    rw (c.in_ok-part.ensures, read32 c.negated.result g, c.negated.ensures, read32 c.in-Some.literal f) (core_opposed (added c.args.self.now.kept) c.args.assume.now c.in-Some.literal opposed)
