use Rattle.graph.proofs.Going.{GoesOn-told, GoesOn-then, GoesOn-fault, GoesOn-append, GoesOn-append_fault}
use Rattle.graph.proofs.Listed.{latches_part, outputs_part, room_latches, room_outputs, to_inputs, to_latches}
use Rattle.graph.proofs.literals.check_first.Goals as goal

pub check_latches-requires-clause-few : goal.check_latches-requires-clause-few
check_latches-requires-clause-few c =
    let m = c.args.parts.now in
    let in_inputs = rw c.as_slice.ensures at c.in_ok-count.ensures in
    rw c.as_slice-2.ensures (room_latches m c.in_ok-count.count c.requires in_inputs.0)

pub returns-in_err-count : goal.returns-in_err-count
returns-in_err-count c =
    let m = c.args.parts.now in
    GoesOn-told _ _ _ _ _ c.from_residual.ensures.1
    (GoesOn-fault m.max_var 0 (to_latches m) (outputs_part m) _ (GoesOn-fault m.max_var 0 (to_inputs m) (latches_part m) _ (rw c.as_slice.ensures at c.in_err-count.ensures)))

pub returns-in_err-count-2 : goal.returns-in_err-count-2
returns-in_err-count-2 c =
    let m = c.args.parts.now in
    let in_inputs = rw c.as_slice.ensures at c.in_ok-count.ensures in
    GoesOn-told _ _ _ _ _ c.from_residual-in_err-count-2.ensures.1
    (GoesOn-fault m.max_var 0 (to_latches m) (outputs_part m) _ (GoesOn-append_fault m.max_var 0 c.in_ok-count.count (to_inputs m) (latches_part m) _ in_inputs (rw c.as_slice-2.ensures at c.in_err-count-2.ensures)))

pub check_mentions-requires-clause-few : goal.check_mentions-requires-clause-few
check_mentions-requires-clause-few c =
    let m = c.args.parts.now in
    let in_inputs = rw c.as_slice.ensures at c.in_ok-count.ensures in
    let in_latches = GoesOn-append m.max_var 0 c.in_ok-count.count c.in_ok-count-2.count (to_inputs m) (latches_part m) in_inputs (rw c.as_slice-2.ensures at c.in_ok-count-2.ensures) in
    rw c.as_slice-3.ensures (room_outputs m c.in_ok-count-2.count c.requires in_latches.0)

pub returns : goal.returns
returns c =
    let m = c.args.parts.now in
    let in_inputs = rw c.as_slice.ensures at c.in_ok-count.ensures in
    let in_latches = GoesOn-append m.max_var 0 c.in_ok-count.count c.in_ok-count-2.count (to_inputs m) (latches_part m) in_inputs (rw c.as_slice-2.ensures at c.in_ok-count-2.ensures) in
    GoesOn-then m.max_var 0 c.in_ok-count-2.count (to_latches m) (outputs_part m) _ in_latches (rw c.as_slice-3.ensures at c.check_mentions.ensures)
