use Rattle.std.proofs.lemmas.Result.{err_from_is_err_and}
use Rattle.scan.specs.Lists.{many_at}
use Rattle.scan.proofs.Loops.{many_more, many_fails, many_done}
use Rattle.scan.proofs.line_kind.lines_into.Goals as goal

pub returns-in_err-item : goal.returns-in_err-item
returns-in_err-item g c =
    let p = err_from_is_err_and c.from_residual.result c.from_residual.ensures.1 in
    let one = g.L.LineKind.at c.args.context in
    rw (p.1, p.2) (many_fails one c.in_err-item.field-0.0 c.loop.items.items c.args.count c.loop.counter c.loop.rest.now (many_at one c.args.count c.args.text.now) c.loop-test.true c.in_err-item.ensures c.loop.invariant)

pub loop-preserved : goal.loop-preserved
loop-preserved g c =
    let one = g.L.LineKind.at c.args.context in
    rw c.in_ok-push.ensures.items (many_more one c.loop.items.items c.args.count c.loop.counter c.loop.rest.now c.in_ok-item.item c.in_ok-item.after.now (many_at one c.args.count c.args.text.now) c.loop-test.true c.in_ok-item.ensures c.loop.invariant)

pub returns : goal.returns
returns g c =
    let one = g.L.LineKind.at c.args.context in
    many_done one c.loop.items.items c.args.count c.loop.counter c.loop.rest.now (many_at one c.args.count c.args.text.now) c.loop-test.false c.loop.invariant
