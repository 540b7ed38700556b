use Rattle.checker3.proofs.Judging.{clauses_over, nothing_grown, nothing_same}
use Rattle.checker3.proofs.evidence.check_over.Goals as goal

pub returns-then-is_empty-2-clause-says : goal.returns-then-is_empty-2-clause-says
returns-then-is_empty-2-clause-says g c =
    let m = c.args.circuit.now in
    let ls = c.args.latches.now in
    let gs = c.args.gates.now in
    clauses_over m m c.args.bad ls gs _ _ _ _ _ (nothing_same m ls gs c.if-is_empty.ensures c.if-is_empty-2.ensures)
    (nothing_grown m ls gs c.if-is_empty.ensures c.if-is_empty-2.ensures c.well_formed-2.ensures) (c.check_clauses.ensures.says ls gs)

pub returns-in-Ok-clause-says : goal.returns-in-Ok-clause-says
returns-in-Ok-clause-says g c =
    let ls = c.args.latches.now in
    let gs = c.args.gates.now in
    clauses_over c.args.circuit.now c.in-Ok.extended c.args.bad ls gs _ _ _ _ _ c.in-Ok.ensures.grown.0 c.in-Ok.ensures.grown.1 (c.check_clauses-in-Ok.ensures.says ls gs)
