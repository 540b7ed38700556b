use Rattle.std.proofs.Common.{◌≡◌, ◌∙◌, ap, length, Result, Ok, Err, OnErr, IfErr, ◌≤◌, ◌+◌, arith}
use Rattle.cdcl_kernel.specs.ClauseRefs.{kept_at}
use Rattle.cdcl_kernel.proofs.ClauseRefs.{length_kept, kept_push, kept_unchanged, inside_push, inside_more}
use Rattle.cdcl_kernel.proofs.store.Store.add.Goals as goal

give_err : {T E P : Type 0} (r : Result T E) → P → OnErr r P
give_err (Ok x) p = tt
give_err (Err e) p = p

when_err : {T E P : Type 0} (Q : E → Type 0) (r : Result T E) → P → IfErr r (λ e. Q e → P)
when_err Q (Ok x) p = tt
when_err Q (Err e) p = λ q. p

pub invariant_of-self-2 : goal.invariant_of-self-2
invariant_of-self-2 c =
    let few = c.in_ok-next_id.ensures.few in
    let same : length c.as_slice.result.now ≡ length c.self.inside.clause_refs.items = ap length c.as_slice.ensures.value in
    rw (c.in_ok-extend.ensures.items, c.in_ok-push.ensures.items, c.in_ok-push-2.ensures.items, c.in_ok-reserve_one.ensures.items, c.len-start.ensures, c.self.inside.literals.ok.0) (inside_push c.self.inside.vars c.self.inside.literals.items c.args.clause.now c.self.inside.clause_refs.items c.self.inside.origins.items c.args.origin (omega (arith, few, c.by.ensures, same)) c.requires.live (rw (← c.self.view_is) at c.requires.in_range) c.self.invariant)

pub returns-clause-ok : goal.returns-clause-ok
returns-clause-ok c =
    rw (c.in_ok-extend.ensures.items, c.in_ok-push.ensures.items, c.in_ok-push-2.ensures.items, c.in_ok-reserve_one.ensures.items, ← c.self.view_is, c.len-start.ensures, c.self.inside.literals.ok.0) (kept_push _ _ c.args.clause.now _ _ c.args.origin c.self.invariant)

pub returns-in_err-push-clause-err : goal.returns-in_err-push-clause-err
returns-in_err-push-clause-err c =
    let e : kept_at c.extend.new.to.items c.push.new.to.items c.reserve_one.new.to.items ≡ kept_at c.self.inside.literals.items c.self.inside.clause_refs.items c.self.inside.origins.items = rw (c.in_ok-extend.ensures.items, c.in_err-push.ensures.items, c.in_ok-reserve_one.ensures.items) (kept_unchanged _ _ c.args.clause.now _ _ c.self.invariant) in
    give_err _ (ap (λ ks. record { vars = c.self.inside.vars; kept = ks }) e ∙ c.self.view_is)

pub returns-in_err-next_id-clause-limit : goal.returns-in_err-next_id-clause-limit
returns-in_err-next_id-clause-limit c =
    let full : 4294967295 ≤ c.by.result.ids + 0 = c.in_err-next_id.ensures.full in
    let same : length c.as_slice.result.now ≡ length c.self.inside.clause_refs.items = ap length c.as_slice.ensures.value in
    let m = length_kept c.self.inside.literals.items c.self.inside.clause_refs.items c.self.inside.origins.items c.self.invariant.same in
    let all : length (kept_at c.self.inside.literals.items c.self.inside.clause_refs.items c.self.inside.origins.items) ≡ 4294967295 = omega (arith, full, c.by.ensures, same, m, c.self.invariant.few) in
    when_err _ _ (rw (← c.self.view_is) all)

pub invariant_of-self-in_err-push : goal.invariant_of-self-in_err-push
invariant_of-self-in_err-push c =
    rw (c.in_ok-extend.ensures.items, c.in_err-push.ensures.items, c.in_ok-reserve_one.ensures.items) (inside_more c.self.inside.vars c.self.inside.literals.items c.args.clause.now c.self.inside.clause_refs.items c.self.inside.origins.items (rw (← c.self.view_is) at c.requires.in_range) c.self.invariant)
