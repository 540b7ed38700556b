use Rattle.std.proofs.Common.{◌<◌, ◌≤◌, ◌++◌, length, arith}
use Rattle.lrat.specs.Shelves.{slots_from}
use Rattle.lrat.specs.Slots.{Slot}
use Rattle.lrat.proofs.Shelved.{length_shelf, own_change}
use Rattle.lrat.proofs.shelf.Shelf.mark.Goals as goal

pub mark-requires : goal.mark-requires
mark-requires c =
    let s = c.self.inside in
    let lt : c.args.index < length (slots_from 1 s.formula ++ s.row.slots) = rw (← c.self.view_is) at c.requires.within in
    let le : s.given ≤ c.args.index = rw (← c.self.view_is) at c.requires.loose in
    omega (arith, lt, length_shelf s.formula s.row.slots, c.self.invariant.number, le)

pub returns-clause-slots : goal.returns-clause-slots
returns-clause-slots c =
    let s = c.self.inside in
    let le : s.given ≤ c.args.index = rw (← c.self.view_is) at c.requires.loose in
    rw (← c.self.view_is, c.mark.ensures.slots) (own_change (λ (t : Slot). record { id = t.id; live = c.args.live; clause = t.clause }) s.formula s.row.slots s.given c.args.index c.self.invariant.number le)
