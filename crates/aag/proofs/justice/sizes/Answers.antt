use Rattle.std.proofs.lemmas.Result.{err_from_is_err_and}
use Rattle.aag.specs.Lines.{greatest}
use Rattle.aag.specs.Justice.{sizes_at}
use Rattle.aag.proofs.JusticeLoops.{sizes_more, sizes_fail, sizes_done}
use Rattle.aag.proofs.justice.sizes.Goals as goal

pub returns-in_err-size : goal.returns-in_err-size
returns-in_err-size g c =
    let p = err_from_is_err_and c.from_residual.result c.from_residual.ensures.1 in
    rw (p.1, p.2) (sizes_fail c.in_err-size.field-0.0 c.loop.sizes.items c.loop.room c.args.count c.loop.counter c.loop.rest.now (sizes_at greatest c.args.count c.args.text.now) c.loop-test.true c.in_err-size.ensures.value c.loop.invariant)

pub loop-preserved : goal.loop-preserved
loop-preserved g c =
    rw c.in_ok-push.ensures.items (sizes_more c.loop.sizes.items c.loop.room c.args.count c.loop.counter c.loop.rest.now c.in_ok-size.size c.in_ok-size.after.now (sizes_at greatest c.args.count c.args.text.now) c.loop-test.true c.in_ok-size.ensures.value c.loop.invariant)

pub returns : goal.returns
returns g c =
    sizes_done c.loop.sizes.items c.loop.room c.args.count c.loop.counter c.loop.rest.now (sizes_at greatest c.args.count c.args.text.now) c.loop-test.false c.loop.invariant
