use Rattle.std.proofs.Common.{◌≤◌, ap, sym, List}
use Rattle.lrat.specs.Slots.{Slot}
use Rattle.lrat.proofs.Shelved.{own_take}
use Rattle.lrat.proofs.shelf.Shelf.truncate.Goals as goal

pub returns-clause-row : goal.returns-clause-row
returns-clause-row c =
    let s = c.self.inside in
    let le : s.given ≤ c.args.len = rw (← c.self.view_is) at c.requires in
    rw (← c.self.view_is, c.truncate.ensures) (ap (λ (ts : List Slot). record { vars = s.row.vars; slots = ts }) (sym (own_take s.formula s.row.slots s.given c.args.len c.self.invariant.number le)))
