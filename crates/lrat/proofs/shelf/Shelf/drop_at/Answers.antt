use Rattle.std.proofs.Common.{◌<◌, ◌≤◌, ◌++◌, [], false, length, arith}
use Rattle.lrat.specs.Shelves.{slots_from}
use Rattle.lrat.specs.Slots.{Slot}
use Rattle.lrat.proofs.Shelved.{length_shelf, own_change}
use Rattle.lrat.proofs.shelf.Shelf.drop_at.Goals as goal

pub drop_at-requires : goal.drop_at-requires
drop_at-requires c =
    let s = c.self.inside in
    let lt : c.args.index < length (slots_from 1 s.formula ++ s.row.slots) = rw (← c.self.view_is) at c.requires.within in
    let le : s.given ≤ c.args.index = rw (← c.self.view_is) at c.requires.loose in
    omega (arith, lt, length_shelf s.formula s.row.slots, c.self.invariant.number, le)

pub returns-clause-slots : goal.returns-clause-slots
returns-clause-slots c =
    let s = c.self.inside in
    let le : s.given ≤ c.args.index = rw (← c.self.view_is) at c.requires.loose in
    rw (← c.self.view_is, c.drop_at.ensures.slots) (own_change (λ (t : Slot). record { id = t.id; live = false; clause = [] }) s.formula s.row.slots s.given c.args.index c.self.invariant.number le)
