use Rattle.std.proofs.Common.{◌≡◌, ◌≤◌, ◌∙◌, ap, arith, length, take, All, Contains, List, ℤ}
use Rattle.lrat.specs.declared.place.Place.{Place}
use Rattle.lrat.specs.Slots.{Slot}
use Rattle.lrat.specs.Places.{kept_at, live_places_from}
use Rattle.lrat.proofs.Kept.{before_kept, behind_kept, inside_live_from, kept_live_from}
use Rattle.lrat.proofs.Placed.{inside_closed, take_whole}
use Rattle.lrat.proofs.row.Row.drop_dead.Goals as goal

pub close_up-end-requires-clause-inside : goal.close_up-end-requires-clause-inside
close_up-end-requires-clause-inside c = rw (c.deref_mut.ensures.value, c.deref_mut-2.ensures.value, c.keep_live.ensures) (inside_live_from _ _ _ _ c.self.invariant).inside

pub close_up-end-requires-clause-in_order : goal.close_up-end-requires-clause-in_order
close_up-end-requires-clause-in_order c = rw (c.deref_mut-2.ensures.value, c.keep_live.ensures) (inside_live_from _ _ _ _ c.self.invariant).in_order

pub close_up-end-requires-clause-before : goal.close_up-end-requires-clause-before
close_up-end-requires-clause-before c =
    let ps : List Place = c.self.inside.places.items in
    rw (c.deref_mut-2.ensures.value, c.keep_live.ensures) (before_kept c.args.first ps c.index.result.now (omega arith) c.index.ensures c.self.invariant.in_order)

pub close_up-end-requires-clause-later : goal.close_up-end-requires-clause-later
close_up-end-requires-clause-later c =
    let ps : List Place = c.self.inside.places.items in
    rw (c.deref_mut-2.ensures.value, c.keep_live.ensures) (behind_kept c.args.first ps c.index.result.now (omega arith) c.index.ensures c.self.invariant.in_order)

pub invariant_of-self : goal.invariant_of-self
invariant_of-self c =
    let ls : List ℤ = c.close_up-end.new.literals in
    let ps : List Place = c.close_up-end.new.places in
    let l : length ls ≡ c.self.inside.literals.len = omega arith in
    let p : length ps ≡ c.keep_live.new.places.len = omega arith in
    let fits : c.close_up-end.result ≤ length ls = omega (arith, c.close_up-end.ensures.fits) in
    let among : All (Contains c.self.inside.literals.items) ls = rw c.deref_mut.ensures.value at c.close_up-end.ensures.among in
    rw (take_whole _ ps _ p, c.truncate.ensures.items, take_whole _ ls _ l)
    (inside_closed c.self.inside.vars c.self.inside.literals.items ls c.self.inside.places.items ps c.close_up-end.result fits c.close_up-end.ensures.inside c.close_up-end.ensures.in_order among c.self.invariant)

pub returns : goal.returns
returns c =
    let ls : List ℤ = c.close_up-end.new.literals in
    let ps : List Place = c.close_up-end.new.places in
    let l : length ls ≡ c.self.inside.literals.len = omega arith in
    let p : length ps ≡ c.keep_live.new.places.len = omega arith in
    let same : kept_at (take c.close_up-end.result ls) ps ≡ kept_at c.self.inside.literals.items (live_places_from c.args.first c.self.inside.places.items) = rw (c.deref_mut.ensures.value, c.deref_mut-2.ensures.value, c.keep_live.ensures) at c.close_up-end.ensures.same in
    rw (take_whole _ ps _ p, c.truncate.ensures.items, take_whole _ ls _ l, ← c.self.view_is)
    (ap (λ (ss : List Slot). record { vars = c.self.inside.vars; slots = ss }) (same ∙ kept_live_from c.self.inside.literals.items c.args.first c.self.inside.places.items))
