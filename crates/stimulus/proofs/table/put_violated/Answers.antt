use Rattle.stimulus.specs.Tables.{HasSimCauseIn}
use Rattle.stimulus.proofs.RowLaws.{err_at}
use Rattle.stimulus.proofs.table.put_violated.Goals as goal

pub returns-in_err-check_playable-clause-refused : goal.returns-in_err-check_playable-clause-refused
returns-in_err-check_playable-clause-refused g c =
    let before = g.W.Sink.contents c.args.out.now in
    err_at c.from_residual.result c.in_err-check_playable.field-0.0 (HasSimCauseIn c.args.circuit.now c.args.initial.now c.args.inputs.now before before) c.from_residual.ensures.1
    (rw c.parts.ensures.parts at (c.in_err-check_playable.ensures.refused.1 before before))
