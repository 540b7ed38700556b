use Rattle.std.proofs.Common.{◌≡◌, ◌∙◌, ap, Result, Ok, Err, OnErr}
use Rattle.lrat.specs.Places.{kept_at}
use Rattle.lrat.proofs.Placed.{kept_push, kept_unchanged, inside_push}
use Rattle.lrat.proofs.row.Row.add_slot.Goals as goal

give_err : {T E P : Type 0} (r : Result T E) → P → OnErr r P
give_err (Ok x) p = tt
give_err (Err e) p = p

pub invariant_of-self-2 : goal.invariant_of-self-2
invariant_of-self-2 c =
    rw (c.in_ok-add_literals.ensures.items, c.in_ok-push.ensures.items, c.len-start.ensures, c.self.inside.literals.ok.0) (inside_push c.self.inside.vars c.self.inside.literals.items c.args.clause.now c.self.inside.places.items c.args.id c.args.live (rw (← c.self.view_is) at c.requires) c.self.invariant)

pub returns-clause-ok : goal.returns-clause-ok
returns-clause-ok c =
    rw (c.in_ok-add_literals.ensures.items, c.in_ok-push.ensures.items, ← c.self.view_is, c.len-start.ensures, c.self.inside.literals.ok.0) (kept_push _ _ c.args.clause.now _ c.args.id c.args.live c.self.invariant)

pub returns-in_err-push-clause-err : goal.returns-in_err-push-clause-err
returns-in_err-push-clause-err c =
    let e : kept_at c.add_literals.new.to.items c.push.new.to.items ≡ kept_at c.self.inside.literals.items c.self.inside.places.items = rw (c.in_ok-add_literals.ensures.items, c.in_err-push.ensures.items) (kept_unchanged _ _ c.args.clause.now _ c.self.invariant) in
    give_err _ (ap (λ ks. record { vars = c.self.inside.vars; slots = ks }) e ∙ c.self.view_is)
