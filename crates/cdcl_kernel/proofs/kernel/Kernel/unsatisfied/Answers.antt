use Rattle.cdcl_kernel.proofs.kernel.Kernel.unsatisfied.Goals as goal

pub returns : goal.returns
returns c = rw (← c.self.view_is) c.unsatisfied.ensures
