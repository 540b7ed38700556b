use Rattle.std.proofs.Common.{◌∙◌, ap, arith}
use Rattle.cdcl_kernel.specs.Kept.{Stored, origin_in}
use Rattle.cdcl_kernel.proofs.ClauseRefs.{origin_ref, origin_out}
use Rattle.cdcl_kernel.proofs.store.Store.origin.Goals as goal
use Rattle.cdcl_kernel.proofs.store.Store.origin.Goals.{else-index-gt0-via-then-index-gt0+else-index-len, else-index-gt0-via-else-index-gt0}

pub returns-then-index-len : goal.returns-then-index-len
returns-then-index-len c =
    origin_ref c.self.inside.literals.items c.self.inside.clause_refs.items c.self.inside.origins.items c.args.id c.index.result.now (omega arith) (omega arith) c.self.invariant.same c.index.ensures
    ∙ ap (λ (s : Stored). origin_in s.kept c.args.id) c.self.view_is

pub returns-else-index-gt0 : goal.returns-else-index-gt0
returns-else-index-gt0 c =
    origin_out c.self.inside.literals.items c.self.inside.clause_refs.items c.self.inside.origins.items c.args.id c.self.invariant.same (λ gt. elim c.else-index-gt0.branch [
      | else-index-gt0-via-then-index-gt0+else-index-len w ↦ omega (arith, w.if-index-len.false)
      | else-index-gt0-via-else-index-gt0 w ↦ absurd (omega (arith, gt, w.if-index-gt0.false))
    ])
    ∙ ap (λ (s : Stored). origin_in s.kept c.args.id) c.self.view_is
