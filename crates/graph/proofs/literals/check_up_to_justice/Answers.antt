use Rattle.graph.proofs.Going.{GoesOn-told, GoesOn-then, GoesOn-fault, GoesOn-append, GoesOn-append_fault}
use Rattle.graph.proofs.Listed.{bad_part, constraints_part, justice_part, room_bad, room_constraints, room_justice, to_outputs, to_bad, to_constraints}
use Rattle.graph.proofs.literals.check_up_to_justice.Goals as goal

pub returns-in_err-count : goal.returns-in_err-count
returns-in_err-count c =
    let m = c.args.parts.now in
    GoesOn-told _ _ _ _ _ c.from_residual.ensures.1
    (GoesOn-fault m.max_var 0 (to_constraints m) (justice_part m) _ (GoesOn-fault m.max_var 0 (to_bad m) (constraints_part m) _ (GoesOn-fault m.max_var 0 (to_outputs m) (bad_part m) _ c.in_err-count.ensures)))

pub check_mentions-requires-clause-few : goal.check_mentions-requires-clause-few
check_mentions-requires-clause-few c = let m = c.args.parts.now in rw c.as_slice.ensures (room_bad m c.in_ok-count.count c.requires c.in_ok-count.ensures.0)

pub returns-in_err-count-2 : goal.returns-in_err-count-2
returns-in_err-count-2 c =
    let m = c.args.parts.now in
    GoesOn-told _ _ _ _ _ c.from_residual-in_err-count-2.ensures.1
    (GoesOn-fault m.max_var 0 (to_constraints m) (justice_part m) _ (GoesOn-fault m.max_var 0 (to_bad m) (constraints_part m) _
    (GoesOn-append_fault m.max_var 0 c.in_ok-count.count (to_outputs m) (bad_part m) _ c.in_ok-count.ensures (rw c.as_slice.ensures at c.in_err-count-2.ensures))))

pub check_mentions-requires-2-clause-few : goal.check_mentions-requires-2-clause-few
check_mentions-requires-2-clause-few c =
    let m = c.args.parts.now in
    let in_bad = GoesOn-append m.max_var 0 c.in_ok-count.count c.in_ok-count-2.count (to_outputs m) (bad_part m) c.in_ok-count.ensures (rw c.as_slice.ensures at c.in_ok-count-2.ensures) in
    rw c.as_slice-2.ensures (room_constraints m c.in_ok-count-2.count c.requires in_bad.0)

pub returns-in_err-count-3 : goal.returns-in_err-count-3
returns-in_err-count-3 c =
    let m = c.args.parts.now in
    let in_bad = GoesOn-append m.max_var 0 c.in_ok-count.count c.in_ok-count-2.count (to_outputs m) (bad_part m) c.in_ok-count.ensures (rw c.as_slice.ensures at c.in_ok-count-2.ensures) in
    GoesOn-told _ _ _ _ _ c.from_residual-in_err-count-3.ensures.1
    (GoesOn-fault m.max_var 0 (to_constraints m) (justice_part m) _ (GoesOn-append_fault m.max_var 0 c.in_ok-count-2.count (to_bad m) (constraints_part m) _ in_bad (rw c.as_slice-2.ensures at c.in_err-count-3.ensures)))

pub check_justice-requires-clause-few : goal.check_justice-requires-clause-few
check_justice-requires-clause-few c =
    let m = c.args.parts.now in
    let in_bad = GoesOn-append m.max_var 0 c.in_ok-count.count c.in_ok-count-2.count (to_outputs m) (bad_part m) c.in_ok-count.ensures (rw c.as_slice.ensures at c.in_ok-count-2.ensures) in
    let in_constraints = GoesOn-append m.max_var 0 c.in_ok-count-2.count c.in_ok-count-3.count (to_bad m) (constraints_part m) in_bad (rw c.as_slice-2.ensures at c.in_ok-count-3.ensures) in
    rw c.as_slice-3.ensures (room_justice m c.in_ok-count-3.count c.requires in_constraints.0)

pub returns : goal.returns
returns c =
    let m = c.args.parts.now in
    let in_bad = GoesOn-append m.max_var 0 c.in_ok-count.count c.in_ok-count-2.count (to_outputs m) (bad_part m) c.in_ok-count.ensures (rw c.as_slice.ensures at c.in_ok-count-2.ensures) in
    let in_constraints = GoesOn-append m.max_var 0 c.in_ok-count-2.count c.in_ok-count-3.count (to_bad m) (constraints_part m) in_bad (rw c.as_slice-2.ensures at c.in_ok-count-3.ensures) in
    GoesOn-then m.max_var 0 c.in_ok-count-3.count (to_constraints m) (justice_part m) _ in_constraints (rw c.as_slice-3.ensures at c.check_justice.ensures)
