use Rattle.std.proofs.Common.{arith}
use Rattle.lrat.proofs.Shelved.{length_shelf}
use Rattle.lrat.proofs.shelf.Shelf.len.Goals as goal

pub returns : goal.returns
returns c = rw (← c.self.view_is) (omega (arith, length_shelf c.self.inside.formula c.self.inside.row.slots, c.self.invariant.number, c.len.ensures.value))
