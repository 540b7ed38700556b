use Rattle.std.proofs.Common.{◌≤◌}
use Rattle.lrat.proofs.Shelved.{shelf_tidied}
use Rattle.lrat.proofs.shelf.Shelf.tidy.Goals as goal

pub returns-clause-row : goal.returns-clause-row
returns-clause-row c =
    let s = c.self.inside in
    let le : s.given ≤ c.args.first = rw (← c.self.view_is) at c.requires in
    rw (← c.self.view_is) (shelf_tidied s.formula s.row c.tidy.new.self s.given c.args.first c.self.invariant.number le c.tidy.ensures)
