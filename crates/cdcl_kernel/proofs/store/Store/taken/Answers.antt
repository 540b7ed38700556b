use Rattle.std.proofs.Common.{◌≡◌, length, ap, arith}
use Rattle.cdcl_kernel.proofs.ClauseRefs.{length_kept}
use Rattle.cdcl_kernel.proofs.store.Store.taken.Goals as goal

pub returns : goal.returns
returns c =
    let same : length c.as_slice.result.now ≡ length c.self.inside.clause_refs.items = ap length c.as_slice.ensures.value in
    let m = length_kept c.self.inside.literals.items c.self.inside.clause_refs.items c.self.inside.origins.items c.self.invariant.same in
    rw (← c.self.view_is) (omega (arith, m, same, c.by.ensures))
