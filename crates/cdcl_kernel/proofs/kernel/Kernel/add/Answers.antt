use Rattle.std.proofs.Common.{◌∙◌, sym}
use Rattle.cdcl_kernel.proofs.Follow.{added_push, follow_added}
use Rattle.cdcl_kernel.specs.declared.origin.Origin.TheVariants.{Added}
use Rattle.cdcl_kernel.proofs.kernel.Kernel.add.Goals as goal

pub invariant_of-self : goal.invariant_of-self
invariant_of-self c = rw c.in_err-add.ensures.err c.self.invariant

pub invariant_of-self-2 : goal.invariant_of-self-2
invariant_of-self-2 c =
    let s = c.self.invariant in
    record {
      scratch_vars = s.scratch_vars ∙ sym c.in_ok-add.ensures.vars;
      scratch_clear = s.scratch_clear;
      follow = rw c.in_ok-add.ensures.ok (follow_added _ _ s.follow);
    }

pub returns-clause-added : goal.returns-clause-added
returns-clause-added c = rw (← c.self.view_is, c.in_ok-add.ensures.ok) (added_push c.self.inside.store.kept (record { origin = Added; clause = c.args.clause.now }))
