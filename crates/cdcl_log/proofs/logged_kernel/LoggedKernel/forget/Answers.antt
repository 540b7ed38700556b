use Rattle.cdcl_log.proofs.Logged.{logged_forgets}
use Rattle.cdcl_log.proofs.logged_kernel.LoggedKernel.forget.Goals as goal

pub invariant_of-self : goal.invariant_of-self
invariant_of-self c =
    logged_forgets c.self.inside.log c.self.inside.numbering c.self.inside.kernel.vars c.forget.new.self.vars c.self.inside.kernel.kept c.forget.new.self.kept c.self.inside.lines.items c.self.inside.end
    _ c.forget.ensures.vars c.forget.ensures.added c.forget.ensures.forgets c.self.invariant
