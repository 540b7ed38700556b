use Rattle.std.proofs.Common.{◌∙◌, sym}
use Rattle.cdcl_kernel.proofs.Follow.{follow_learned, added_learned}
use Rattle.cdcl_kernel.proofs.kernel.Kernel.learn.Goals as goal

pub add-requires-clause-in_range : goal.add-requires-clause-in_range
add-requires-clause-in_range c =
    let learned = rw (← c.in_ok-shown.ensures.same, ← c.self.view_is) at (c.in_ok-shown.ensures.shown.0 c.if-shown.true) in
    learned.literals

pub invariant_of-self : goal.invariant_of-self
invariant_of-self c =
    let s = c.self.invariant in
    let learned = rw (← c.in_ok-shown.ensures.same, ← c.self.view_is) at (c.in_ok-shown.ensures.shown.0 c.if-shown.true) in
    record {
      scratch_vars = s.scratch_vars ∙ sym c.in_ok-add.ensures.vars;
      scratch_clear = s.scratch_clear;
      follow = rw c.in_ok-add.ensures.ok (follow_learned _ _ s.follow learned.follows);
    }

pub returns-in_ok-add-clause-added : goal.returns-in_ok-add-clause-added
returns-in_ok-add-clause-added c = rw (← c.in_ok-shown.ensures.same, ← c.self.view_is, c.in_ok-add.ensures.ok) (added_learned c.self.inside.store.kept c.args.clause.now)
