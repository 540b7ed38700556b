use Rattle.std.proofs.Common.{◌∙◌, sym}
use Rattle.cdcl_kernel.proofs.Forgetting.{forgets_follow}
use Rattle.cdcl_kernel.proofs.kernel.Kernel.forget.Goals as goal

pub invariant_of-self : goal.invariant_of-self
invariant_of-self c =
    let s = c.self.invariant in
    record {
      scratch_vars = s.scratch_vars ∙ sym c.forget.ensures.vars;
      scratch_clear = s.scratch_clear;
      follow = forgets_follow _ _ _ c.forget.ensures.added c.forget.ensures.forgets s.follow;
    }
