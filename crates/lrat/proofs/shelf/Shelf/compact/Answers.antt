use Rattle.std.proofs.Common.{ap, sym, List, arith}
use Rattle.lrat.specs.Slots.{Slot}
use Rattle.lrat.proofs.Shelved.{length_shelf, shelf_live}
use Rattle.lrat.proofs.shelf.Shelf.compact.Goals as goal

pub returns-clause-row : goal.returns-clause-row
returns-clause-row c =
    let s = c.self.inside in
    rw (← c.self.view_is, c.compact.ensures) (ap (λ (ts : List Slot). record { vars = s.row.vars; slots = ts }) (sym (shelf_live s.formula s.row.slots)))

pub returns-clause-within : goal.returns-clause-within
returns-clause-within c = omega (arith, length_shelf c.self.inside.formula c.compact.new.self.slots, c.self.invariant.number)
