use Rattle.std.proofs.Common.{◌<◌, ◌++◌, ◌∙◌, ap, sym, length, arith}
use Rattle.lrat.specs.Shelves.{slots_from}
use Rattle.lrat.specs.Slots.{Slot}
use Rattle.lrat.proofs.Shelved.{length_shelf, given_slot, own_slot}
use Rattle.lrat.proofs.shelf.Shelf.is_live.Goals as goal

pub returns-then-index-self : goal.returns-then-index-self
returns-then-index-self c = rw (← c.self.view_is) (ap (λ (s : Slot). s.live) (sym (given_slot c.self.inside.formula c.self.inside.row.slots c.args.index (omega (arith, c.self.invariant.number, c.if-index-self.true)))))

pub is_live-requires : goal.is_live-requires
is_live-requires c =
    let s = c.self.inside in
    let lt : c.args.index < length (slots_from 1 s.formula ++ s.row.slots) = rw (← c.self.view_is) at c.requires in
    omega (arith, lt, length_shelf s.formula s.row.slots, c.self.invariant.number, c.if-index-self.false)

pub returns : goal.returns
returns c =
    let s = c.self.inside in
    rw (← c.self.view_is) (c.is_live.ensures ∙ ap (λ (t : Slot). t.live) (sym (own_slot s.formula s.row.slots s.given c.args.index c.self.invariant.number c.if-index-self.false)))
