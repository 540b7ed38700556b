use Rattle.std.proofs.lemmas.Result.{err_from_is_err_and}
use Rattle.scan.specs.Lists.{many_at}
use Rattle.scan.proofs.Loops.{many_more, many_fails, many_done}
use Rattle.invariant.specs.PlaReading.{row_at}
use Rattle.invariant.proofs.rows.rows.Goals as goal

pub returns-in_err-clause : goal.returns-in_err-clause
returns-in_err-clause c =
    let p = err_from_is_err_and c.from_residual.result c.from_residual.ensures.1 in
    let one = row_at c.args.columns.now in
    rw (p.1, p.2) (many_fails one c.in_err-clause.field-0.0 c.loop.clauses c.args.count c.loop.counter c.loop.rest.now (many_at one c.args.count c.args.text.now) c.loop-test.true c.in_err-clause.ensures c.loop.invariant)

pub loop-preserved : goal.loop-preserved
loop-preserved c =
    let one = row_at c.args.columns.now in
    rw c.in_ok-push.ensures.ok (many_more one c.loop.clauses c.args.count c.loop.counter c.loop.rest.now c.in_ok-clause.clause c.in_ok-clause.after.now (many_at one c.args.count c.args.text.now) c.loop-test.true c.in_ok-clause.ensures c.loop.invariant)

pub returns : goal.returns
returns c =
    let one = row_at c.args.columns.now in
    many_done one c.loop.clauses c.args.count c.loop.counter c.loop.rest.now (many_at one c.args.count c.args.text.now) c.loop-test.false c.loop.invariant
