use Rattle.std.proofs.Common.{arith}
use Rattle.cdcl_kernel.proofs.ClauseRefs.{length_kept}
use Rattle.cdcl_kernel.proofs.store.Store.len.Goals as goal

pub returns-clause-value : goal.returns-clause-value
returns-clause-value c =
    let m = length_kept c.self.inside.literals.items c.self.inside.clause_refs.items c.self.inside.origins.items c.self.invariant.same in
    rw (← c.self.view_is) (omega (arith, m, c.len.ensures))

pub returns-clause-few : goal.returns-clause-few
returns-clause-few c =
    let m = length_kept c.self.inside.literals.items c.self.inside.clause_refs.items c.self.inside.origins.items c.self.invariant.same in
    rw (← c.self.view_is) (omega (arith, m, c.self.invariant.few))
