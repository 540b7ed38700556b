use Rattle.std.proofs.Common.{◌≡◌, ◌≤◌, ◌∙◌, ap, arith, length, take, All, Contains, List, ℤ}
use Rattle.cdcl_kernel.specs.declared.clause_ref.ClauseRef.{ClauseRef}
use Rattle.cdcl_kernel.specs.ClauseRefs.{parts_at, with_origins}
use Rattle.cdcl_kernel.proofs.ClauseRefs.{inside_closed, take_whole}
use Rattle.cdcl_kernel.proofs.store.Store.close_up.Goals as goal

pub invariant_of-self : goal.invariant_of-self
invariant_of-self c =
    let ls : List ℤ = c.close_up-end.new.literals in
    let ps : List ClauseRef = c.close_up-end.new.clause_refs in
    let l : length ls ≡ c.self.inside.literals.len = omega arith in
    let p : length ps ≡ c.self.inside.clause_refs.len = omega arith in
    let same : length ps ≡ length c.self.inside.clause_refs.items = omega (arith, ap length c.deref_mut-2.ensures.value) in
    let fits : c.close_up-end.result ≤ length ls = omega (arith, c.close_up-end.ensures.fits) in
    let among : All (Contains c.self.inside.literals.items) ls = rw c.deref_mut.ensures.value at c.close_up-end.ensures.among in
    let parts : parts_at (take c.close_up-end.result ls) ps ≡ parts_at c.self.inside.literals.items c.self.inside.clause_refs.items = rw (c.deref_mut.ensures.value, c.deref_mut-2.ensures.value) at c.close_up-end.ensures.same in
    rw (take_whole _ ps _ p, c.truncate.ensures.items, take_whole _ ls _ l)
    (inside_closed c.self.inside.vars c.self.inside.literals.items ls c.self.inside.clause_refs.items ps c.self.inside.origins.items c.close_up-end.result same fits c.close_up-end.ensures.inside c.close_up-end.ensures.in_order among parts c.self.invariant)

pub returns : goal.returns
returns c =
    let ls : List ℤ = c.close_up-end.new.literals in
    let ps : List ClauseRef = c.close_up-end.new.clause_refs in
    let l : length ls ≡ c.self.inside.literals.len = omega arith in
    let p : length ps ≡ c.self.inside.clause_refs.len = omega arith in
    let same : parts_at (take c.close_up-end.result ls) ps ≡ parts_at c.self.inside.literals.items c.self.inside.clause_refs.items = rw (c.deref_mut.ensures.value, c.deref_mut-2.ensures.value) at c.close_up-end.ensures.same in
    rw (take_whole _ ps _ p, c.truncate.ensures.items, take_whole _ ls _ l)
    (ap (λ (cs : List (List ℤ)). record { vars = c.self.inside.vars; kept = with_origins cs c.self.inside.origins.items }) same ∙ c.self.view_is)
