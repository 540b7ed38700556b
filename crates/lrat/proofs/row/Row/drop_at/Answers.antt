use Rattle.std.proofs.Common.{arith, ◌<◌, ◌≡◌, length}
use Rattle.std.proofs.lemmas.List.{length-map}
use Rattle.lrat.specs.Places.{kept_of, kept_at}
use Rattle.lrat.proofs.Placed.{inside_set, dropped_place}
use Rattle.lrat.proofs.row.Row.drop_at.Goals as goal

pub invariant_of-self : goal.invariant_of-self
invariant_of-self c =
    let n : length (kept_at c.self.inside.literals.items c.self.inside.places.items) ≡ length c.self.inside.places.items = length-map c.self.inside.places.items (kept_of c.self.inside.literals.items) in
    let lt : c.args.index < length c.self.inside.places.items = rw n at (rw (← c.self.view_is) at c.requires) in
    inside_set c.self.inside.vars c.self.inside.literals.items c.self.inside.places.items c.args.index _ _ _ c.index-place.result.now lt c.index-place.ensures (omega arith) c.self.invariant

pub returns-clause-slots : goal.returns-clause-slots
returns-clause-slots c =
    let n : length (kept_at c.self.inside.literals.items c.self.inside.places.items) ≡ length c.self.inside.places.items = length-map c.self.inside.places.items (kept_of c.self.inside.literals.items) in
    let lt : c.args.index < length c.self.inside.places.items = rw n at (rw (← c.self.view_is) at c.requires) in
    rw (← c.self.view_is) (dropped_place c.self.inside.literals.items c.self.inside.places.items c.args.index c.index-place.result.now lt c.index-place.ensures)
