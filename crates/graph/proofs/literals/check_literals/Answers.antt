use Rattle.graph.proofs.Going.{GoesOn-told, GoesOn-then, GoesOn-fault, GoesOn-append, GoesOn-append_fault}
use Rattle.graph.proofs.Listed.{fairness_part, gates_part, room_fairness, room_gates, to_justice, to_fairness}
use Rattle.graph.proofs.literals.check_literals.Goals as goal

pub returns-in_err-count : goal.returns-in_err-count
returns-in_err-count c =
    let m = c.args.parts.now in
    GoesOn-told _ _ _ _ _ c.from_residual.ensures.1
    (GoesOn-fault m.max_var 0 (to_fairness m) (gates_part m) _ (GoesOn-fault m.max_var 0 (to_justice m) (fairness_part m) _ c.in_err-count.ensures))

pub check_mentions-requires-clause-few : goal.check_mentions-requires-clause-few
check_mentions-requires-clause-few c = let m = c.args.parts.now in rw c.as_slice.ensures (room_fairness m c.in_ok-count.count c.requires c.in_ok-count.ensures.0)

pub returns-in_err-count-2 : goal.returns-in_err-count-2
returns-in_err-count-2 c =
    let m = c.args.parts.now in
    GoesOn-told _ _ _ _ _ c.from_residual-in_err-count-2.ensures.1
    (GoesOn-fault m.max_var 0 (to_fairness m) (gates_part m) _
    (GoesOn-append_fault m.max_var 0 c.in_ok-count.count (to_justice m) (fairness_part m) _ c.in_ok-count.ensures (rw c.as_slice.ensures at c.in_err-count-2.ensures)))

pub check_gates-requires-clause-few : goal.check_gates-requires-clause-few
check_gates-requires-clause-few c =
    let m = c.args.parts.now in
    let in_fairness = GoesOn-append m.max_var 0 c.in_ok-count.count c.in_ok-count-2.count (to_justice m) (fairness_part m) c.in_ok-count.ensures (rw c.as_slice.ensures at c.in_ok-count-2.ensures) in
    rw c.as_slice-2.ensures (room_gates m c.in_ok-count-2.count c.requires in_fairness.0)

pub returns : goal.returns
returns c =
    let m = c.args.parts.now in
    let in_fairness = GoesOn-append m.max_var 0 c.in_ok-count.count c.in_ok-count-2.count (to_justice m) (fairness_part m) c.in_ok-count.ensures (rw c.as_slice.ensures at c.in_ok-count-2.ensures) in
    GoesOn-then m.max_var 0 c.in_ok-count-2.count (to_fairness m) (gates_part m) _ in_fairness (rw c.as_slice-2.ensures at c.check_gates.ensures)
