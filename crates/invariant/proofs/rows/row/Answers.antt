use Rattle.std.proofs.lemmas.Result.{err_from_is_err_and}
use Rattle.invariant.specs.PlaReading.{row_at}
use Rattle.invariant.proofs.RowLoop.{no_latch, row_more, row_fails, row_done, row_unended}
use Rattle.invariant.proofs.rows.row.Goals as goal

pub returns-in_err-value : goal.returns-in_err-value
returns-in_err-value c =
    let p = err_from_is_err_and c.from_residual.result c.from_residual.ensures.1 in
    rw (p.1, p.2) (row_fails c.in_err-value.field-0.0 c.loop-latch.literals.items c.args.columns.now c.loop-latch.latch-index no_latch c.loop-latch.rest.now (row_at c.args.columns.now c.args.text.now) c.loop-latch-test.true c.in_err-value.ensures c.loop-latch.invariant)

pub loop-latch-preserved : goal.loop-latch-preserved
loop-latch-preserved c =
    rw c.in_ok-push_against.ensures (row_more c.loop-latch.literals.items c.args.columns.now c.loop-latch.latch-index no_latch c.loop-latch.rest.now c.in_ok-value.after.now c.in_ok-value.value (row_at c.args.columns.now c.args.text.now) c.loop-latch-test.true c.in_ok-value.ensures c.loop-latch.invariant)

pub returns-in_err-rest : goal.returns-in_err-rest
returns-in_err-rest c =
    let p = err_from_is_err_and c.from_residual-in_err-rest.result c.from_residual-in_err-rest.ensures.1 in
    rw (p.1, p.2) (row_unended c.in_err-rest.field-0.0 c.loop-latch.literals.items c.args.columns.now c.loop-latch.latch-index c.loop-latch.rest.now (row_at c.args.columns.now c.args.text.now) c.loop-latch-test.false c.in_err-rest.ensures.value c.loop-latch.invariant)

pub returns : goal.returns
returns c =
    row_done c.loop-latch.literals.items c.args.columns.now c.loop-latch.latch-index c.loop-latch.rest.now c.in_ok-rest.rest.now (row_at c.args.columns.now c.args.text.now) c.loop-latch-test.false c.in_ok-rest.ensures.value c.loop-latch.invariant
