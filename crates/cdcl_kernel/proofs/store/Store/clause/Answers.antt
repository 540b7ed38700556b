use Rattle.std.proofs.Common.{◌≡◌, ◌∙◌, ◌+◌, ◌-◌, List, ℤ, Some, ap, sym, arith}
use Rattle.cdcl_kernel.specs.Kept.{live_if}
use Rattle.cdcl_kernel.specs.ClauseRefs.{part_of}
use Rattle.cdcl_kernel.specs.declared.origin.Origin.{Origin}
use Rattle.cdcl_kernel.specs.declared.clause_ref.ClauseRef.{ClauseRef}
use Rattle.cdcl_kernel.proofs.ClauseRefs.{find_ref, find_out, is_live, empty_part, live_kept}
use Rattle.cdcl_kernel.proofs.store.Store.clause.Goals as goal
use Rattle.cdcl_kernel.proofs.store.Store.clause.Goals.{then-index-eq0-via-then-index-eq0, then-index-eq0-via-else-index-eq0+then-index-len}

pub returns-then-index-eq0-clause-value : goal.returns-then-index-eq0-clause-value
returns-then-index-eq0-clause-value c =
    rw (← c.self.view_is) (find_out c.self.inside.literals.items c.self.inside.clause_refs.items c.self.inside.origins.items c.args.id c.self.invariant.same (λ gt. elim c.then-index-eq0.branch [
      | then-index-eq0-via-then-index-eq0 w ↦ absurd (omega (arith, gt, w.if-index-eq0.true))
      | then-index-eq0-via-else-index-eq0+then-index-len w ↦ omega (arith, w.if-index-len.true)
    ]))

pub returns-in-Removed-clause-value : goal.returns-in-Removed-clause-value
returns-in-Removed-clause-value c =
    rw (← c.self.view_is) (sym (find_ref c.self.inside.literals.items c.self.inside.clause_refs.items c.self.inside.origins.items c.args.id _ c.index.result.now (omega arith) (omega arith) c.self.invariant.same c.index-clause_ref.ensures c.index.ensures ∙ ap (λ (o : Origin). live_if o (part_of c.self.inside.literals.items c.index-clause_ref.result.now)) c.in-Removed.is))

pub returns-in_default : goal.returns-in_default
returns-in_default c =
    let p : ClauseRef = c.index-clause_ref.result.now in
    let zero : p.len ≡ 0 = omega (arith, c.if-clause_ref-eq0.true) in
    record {
      value = rw (← c.self.view_is) (sym (find_ref c.self.inside.literals.items c.self.inside.clause_refs.items c.self.inside.origins.items c.args.id p c.index.result.now (omega arith) (omega arith) c.self.invariant.same c.index-clause_ref.ensures c.index.ensures ∙ live_kept _ _ c.in_default.not-Removed ∙ ap (λ (xs : List ℤ). Some xs) (empty_part c.self.inside.literals.items p zero)));
      in_range = λ k d lt. absurd (omega arith);
    }

pub returns-clause-value : goal.returns-clause-value
returns-clause-value c =
    let p : ClauseRef = c.index-clause_ref.result.now in
    let same : p.start + p.len - p.start ≡ p.len = omega arith in
    rw (← c.self.view_is, same, c.deref-2.ensures.value) (sym (is_live c.self.inside.vars c.self.inside.literals.items c.self.inside.clause_refs.items c.self.inside.origins.items c.args.id p c.self.invariant (omega arith) (omega arith) c.index-clause_ref.ensures (λ z. omega (arith, z, c.if-clause_ref-eq0.false))))
