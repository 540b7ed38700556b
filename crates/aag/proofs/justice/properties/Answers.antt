use Rattle.std.proofs.lemmas.Result.{err_from_is_err_and}
use Rattle.aag.specs.Justice.{properties_at}
use Rattle.aag.proofs.JusticeLoops.{properties_more, properties_fail, properties_done}
use Rattle.aag.proofs.justice.properties.Goals as goal

pub returns-in_err-literals : goal.returns-in_err-literals
returns-in_err-literals g c =
    let p = err_from_is_err_and c.from_residual.result c.from_residual.ensures.1 in
    rw (p.1, p.2) (properties_fail c.in_err-literals.field-0.0 c.loop-size.properties.items c.args.line.max_var c.args.sizes.now c.loop-size.size-index c.loop-size.rest.now (properties_at c.args.line.max_var c.args.sizes.now c.args.text.now) c.loop-size-test.true c.in_err-literals.ensures c.loop-size.invariant)

pub loop-size-preserved : goal.loop-size-preserved
loop-size-preserved g c =
    rw (c.in_ok-push.ensures.items, c.from_vec.ensures) (properties_more c.loop-size.properties.items c.args.line.max_var c.args.sizes.now c.loop-size.size-index c.loop-size.rest.now c.in_ok-literals.literals.items c.in_ok-literals.after.now (properties_at c.args.line.max_var c.args.sizes.now c.args.text.now) c.loop-size-test.true c.in_ok-literals.ensures c.loop-size.invariant)

pub returns : goal.returns
returns g c =
    properties_done c.loop-size.properties.items c.args.line.max_var c.args.sizes.now c.loop-size.size-index c.loop-size.rest.now (properties_at c.args.line.max_var c.args.sizes.now c.args.text.now) c.loop-size-test.false c.loop-size.invariant
