use Rattle.std.proofs.Common.{arith}
use Rattle.cdcl_kernel.proofs.ClauseRefs.{remove_ref, without_out, inside_removed}
use Rattle.cdcl_kernel.proofs.store.Store.remove.Goals as goal
use Rattle.cdcl_kernel.proofs.store.Store.remove.Goals.{else-index-gt0-via-then-index-gt0+else-index-len, else-index-gt0-via-else-index-gt0}

pub invariant_of-self : goal.invariant_of-self
invariant_of-self c = inside_removed c.self.inside.vars c.self.inside.literals.items c.self.inside.clause_refs.items c.self.inside.origins.items _ c.index-clause_ref.result.now (omega arith) c.index-clause_ref.ensures c.self.invariant

pub returns-then-index-len-clause-kept : goal.returns-then-index-len-clause-kept
returns-then-index-len-clause-kept c = rw (← c.self.view_is) (remove_ref c.self.inside.literals.items c.self.inside.clause_refs.items c.self.inside.origins.items c.args.id _ (omega arith))

pub returns-else-index-gt0-clause-kept : goal.returns-else-index-gt0-clause-kept
returns-else-index-gt0-clause-kept c =
    rw (← c.self.view_is) (without_out c.self.inside.literals.items c.self.inside.clause_refs.items c.self.inside.origins.items c.args.id c.self.invariant.same (λ gt. elim c.else-index-gt0.branch [
      | else-index-gt0-via-then-index-gt0+else-index-len w ↦ omega (arith, w.if-index-len.false)
      | else-index-gt0-via-else-index-gt0 w ↦ absurd (omega (arith, gt, w.if-index-gt0.false))
    ]))
