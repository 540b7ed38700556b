use Rattle.cdcl_kernel.specs.Known.{Learns}
use Rattle.cdcl_log.proofs.Logged.{grows, learns_grows, logged_not}
use Rattle.cdcl_log.proofs.logged_kernel.LoggedKernel.learn.Goals as goal

pub invariant_of-self : goal.invariant_of-self
invariant_of-self c =
    logged_not c.self.inside.log c.self.inside.numbering c.self.inside.kernel.vars c.learn.new.self.vars c.self.inside.kernel.kept c.learn.new.self.kept c.self.inside.lines.items c.self.inside.end
    c.in_default.not-Open c.learn.ensures.vars c.learn.ensures.added
    (grows c.self.inside.kernel c.learn.new.self c.learn.result (Learns c.self.inside.kernel c.learn.new.self c.args.clause.now c.args.hints.now) c.learn.ensures.learns
    (learns_grows c.self.inside.kernel c.learn.new.self c.args.clause.now c.args.hints.now) c.learn.ensures.err)
    c.self.invariant
