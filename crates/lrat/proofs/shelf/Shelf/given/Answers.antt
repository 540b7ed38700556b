use Rattle.std.proofs.Common.{arith}
use Rattle.lrat.proofs.Shelved.{length_shelf}
use Rattle.lrat.proofs.shelf.Shelf.given.Goals as goal

pub returns-clause-within : goal.returns-clause-within
returns-clause-within c = rw (← c.self.view_is) (omega (arith, length_shelf c.self.inside.formula c.self.inside.row.slots, c.self.invariant.number))
