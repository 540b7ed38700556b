use Rattle.std.proofs.Common.{ap, arith, List}
use Rattle.lrat.specs.Slots.{Slot}
use Rattle.lrat.proofs.Placed.{inside_short, kept_short}
use Rattle.lrat.proofs.row.Row.truncate.Goals as goal

pub invariant_of-self : goal.invariant_of-self
invariant_of-self c = rw (c.truncate.ensures.items, c.truncate-then-len.ensures.items) (inside_short c.self.inside.vars c.self.inside.literals.items c.self.inside.places.items c.args.len c.index.result.now (omega arith) c.index.ensures c.self.invariant)

pub returns-then-len : goal.returns-then-len
returns-then-len c = rw (c.truncate.ensures.items, c.truncate-then-len.ensures.items, ← c.self.view_is) (ap (λ (ss : List Slot). record { vars = c.self.inside.vars; slots = ss }) (kept_short c.self.inside.vars c.self.inside.literals.items c.self.inside.places.items c.args.len c.index.result.now (omega arith) c.index.ensures c.self.invariant))
