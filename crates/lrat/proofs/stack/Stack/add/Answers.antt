use Rattle.std.proofs.Common.{◌∙◌, ap, List, take, map}
use Rattle.lrat.specs.Slots.{Slot, revived, live_of}
use Rattle.lrat.proofs.Layering.{added_layered, added_shared, added_present, changed_layers}
use Rattle.lrat.proofs.stack.Stack.add.Goals as goal

pub invariant_of-self-2 : goal.invariant_of-self-2
invariant_of-self-2 c =
    let above = rw (← c.self.view_is) at c.requires.above in
    (rw c.in_ok-add.ensures.ok (added_layered _ _ _ _ _ _ _ c.self.invariant.0 above), rw c.in_ok-add.ensures.given c.self.invariant.1)

pub returns-clause-ok : goal.returns-clause-ok
returns-clause-ok c =
    let above = rw (← c.self.view_is) at c.requires.above in
    let s = c.self.inside in
    rw (← c.self.view_is) (changed_layers s.shelf.row c.add.new.self.row s.mark s.shared_top s.top c.args.id _ c.in_ok-add.ensures.vars
    (ap (λ (ss : List Slot). map revived (take s.mark ss)) c.in_ok-add.ensures.ok ∙ added_shared s.shelf.row.slots s.mark s.shared_top s.hidden.items s.top _ c.self.invariant.0)
    (ap live_of c.in_ok-add.ensures.ok ∙ added_present s.shelf.row.slots s.mark s.shared_top s.hidden.items s.top c.args.id c.args.clause.now c.self.invariant.0 above))
