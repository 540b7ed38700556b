use Rattle.std.proofs.Common.{All, arith}
use Rattle.cnf.specs.Formulas.{IsInRange}
use Rattle.cnf.proofs.CaseLaws.{bad_in_range, constraints_in_range}
use Rattle.unrolling.proofs.Closed.{closing_begins, closing_more, closing_ends}
use Rattle.unrolling.proofs.cone.mark_cone.Goals as goal

pub mark_all-requires : goal.mark_all-requires
mark_all-requires c = λ k d k_in.
    let m = c.args.circuit.now in
    let range : All (IsInRange m.max_var) c.bad.result.now = rw c.bad.ensures (bad_in_range m c.well_formed-2.ensures) in
    let p = range k d k_in in
    omega (arith, p, c.requires.places)

pub mark_all-requires-2 : goal.mark_all-requires-2
mark_all-requires-2 c = λ k d k_in.
    let m = c.args.circuit.now in
    let range : All (IsInRange m.max_var) c.constraints.result.now = rw c.constraints.ensures (constraints_in_range m c.well_formed-2.ensures) in
    let p = range k d k_in in
    omega (arith, p, c.in_ok-mark_all.ensures.places, c.requires.places)

pub closing-init : goal.closing-init
closing-init c =
    closing_begins c.args.circuit.now c.args.cuts.now c.args.marks.now c.mark_all.new.marks c.mark_all-2.new.marks c.mark_all.new.list.items c.mark_all-2.new.list.items c.requires.places c.requires.clear
    (rw (c.new-list.ensures.items, c.bad.ensures) at c.in_ok-mark_all.ensures) (rw c.constraints.ensures at c.in_ok-mark_all-2.ensures)

pub closing-preserved : goal.closing-preserved
closing-preserved c =
    closing_more c.args.circuit.now c.args.cuts.now c.closing.marks c.visit.new.marks c.closing.list.items c.visit.new.list.items c.closing.next c.closing.invariant (omega arith) c.in_ok-visit.ensures.grows c.in_ok-visit.ensures.visited

pub returns : goal.returns
returns c = closing_ends c.args.circuit.now c.args.cuts.now c.closing.marks c.closing.list.items c.closing.next (omega arith) c.closing.invariant
