use Rattle.std.proofs.Common.{◌≡◌, ◌+◌, ◌-◌, ◌<◌, ◌∙◌, length, arith}
use Rattle.lrat.proofs.Shelved.{length_shelf, own_rising, given_id, own_id, nowhere_else, no_zero}
use Rattle.lrat.proofs.shelf.Shelf.position.Goals as goal

pub position-requires : goal.position-requires
position-requires c =
    let s = c.self.inside in
    own_rising s.formula s.row.slots (rw (← c.self.view_is) at c.requires)

pub returns-then-id-eq0 : goal.returns-then-id-eq0
returns-then-id-eq0 c = rw c.if-id-eq0.true (no_zero c.args.self.now.row.slots c.requires)

pub returns-then-index-self : goal.returns-then-index-self
returns-then-index-self c =
    let s = c.self.inside in
    let lt : c.args.id - 1 < length s.formula = omega (arith, c.self.invariant.number, c.if-index-self.true) in
    let id : 1 + (c.args.id - 1) ≡ c.args.id = omega (arith, c.if-id-eq0.false) in
    rw (← c.self.view_is) (omega (arith, lt, length_shelf s.formula s.row.slots), given_id s.formula s.row.slots (c.args.id - 1) lt ∙ id)

pub overflow_add-result : goal.overflow_add-result
overflow_add-result c = omega (arith, c.self.invariant.number, c.self.invariant.few, c.in-Some.ensures.value.0, c.in-Some.ensures.few)

pub returns-in-Some : goal.returns-in-Some
returns-in-Some c =
    let s = c.self.inside in
    rw (← c.self.view_is) (omega (arith, c.in-Some.ensures.value.0, length_shelf s.formula s.row.slots, c.self.invariant.number), own_id s.formula s.row.slots s.given c.in-Some.index c.self.invariant.number ∙ c.in-Some.ensures.value.1)

pub returns-in-None : goal.returns-in-None
returns-in-None c =
    let s = c.self.inside in
    rw (← c.self.view_is) (nowhere_else s.formula s.row.slots c.args.id (omega (arith, c.self.invariant.number, c.if-index-self.false, c.if-id-eq0.false)) c.in-None.ensures.value)
