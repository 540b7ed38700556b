use Rattle.std.proofs.Common.{subst, List, ℤ, ◌≡◌, length}
use Rattle.std.proofs.lemmas.List.{length-map}
use Rattle.lrat.specs.Slots.{IsRising, ids_in}
use Rattle.lrat.specs.Places.{ids_of, kept_of, kept_at}
use Rattle.lrat.specs.declared.place.Place.{Place}
use Rattle.lrat.proofs.Rising.{ids_kept}
use Rattle.lrat.proofs.row.Row.position.Goals as goal

pub position-requires : goal.position-requires
position-requires c = rw c.as_slice.ensures.value (subst (IsRising 0) (ids_kept c.self.inside.literals.items c.self.inside.places.items) (rw (← c.self.view_is) at c.requires))

pub returns-clause-value : goal.returns-clause-value
returns-clause-value c =
    let ls : List ℤ = c.self.inside.literals.items in
    let ps : List Place = c.self.inside.places.items in
    let a = rw c.as_slice.ensures.value at c.position.ensures in
    let ids : ids_in (kept_at ls ps) ≡ ids_of ps = ids_kept ls ps in
    let n : length (kept_at ls ps) ≡ length ps = length-map ps (kept_of ls) in
    rw (← c.self.view_is, ids, n) a
