use Rattle.std.proofs.Common.{◌<◌, ◌++◌, ◌∙◌, ap, sym, subst, length, get_or, List, ℤ, [], All, arith}
use Rattle.std.proofs.lemmas.List.Elements.{All-get_or}
use Rattle.lrat.specs.Literals.{IsLiteral}
use Rattle.lrat.specs.Shelves.{slots_from}
use Rattle.lrat.specs.Slots.{Slot}
use Rattle.lrat.proofs.Shelved.{length_shelf, given_slot, own_slot}
use Rattle.lrat.proofs.shelf.Shelf.clause.Goals as goal

pub clause-requires : goal.clause-requires
clause-requires c = omega (arith, c.self.invariant.number, c.if-index-self.true)

pub returns-then-index-self-clause-value : goal.returns-then-index-self-clause-value
returns-then-index-self-clause-value c =
    let s = c.self.inside in
    rw (← c.self.view_is) (c.clause.ensures ∙ ap (λ (t : Slot). t.clause) (sym (given_slot s.formula s.row.slots c.args.index (omega (arith, c.self.invariant.number, c.if-index-self.true)))))

pub returns-then-index-self-clause-in_range : goal.returns-then-index-self-clause-in_range
returns-then-index-self-clause-in_range c =
    let s = c.self.inside in
    let all : All (IsLiteral s.row.vars) (get_or s.formula c.args.index []) = All-get_or (λ (d : List ℤ). All (IsLiteral s.row.vars) d) s.formula c.args.index [] (omega (arith, c.self.invariant.number, c.if-index-self.true)) c.self.invariant.in_range in
    rw (← c.self.view_is) (subst (All (IsLiteral s.row.vars)) (sym c.clause.ensures) all)

pub clause-requires-2 : goal.clause-requires-2
clause-requires-2 c =
    let s = c.self.inside in
    let lt : c.args.index < length (slots_from 1 s.formula ++ s.row.slots) = rw (← c.self.view_is) at c.requires in
    omega (arith, lt, length_shelf s.formula s.row.slots, c.self.invariant.number, c.if-index-self.false)

pub returns-clause-value : goal.returns-clause-value
returns-clause-value c =
    let s = c.self.inside in
    rw (← c.self.view_is) (c.clause-2.ensures.value ∙ ap (λ (t : Slot). t.clause) (sym (own_slot s.formula s.row.slots s.given c.args.index c.self.invariant.number c.if-index-self.false)))
