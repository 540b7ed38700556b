use Rattle.std.proofs.lemmas.Result.{err_from_is_err_and}
use Rattle.scan.specs.Bytes.{tag_at}
use Rattle.scan.proofs.Tags.{tag_more, tag_fails, tag_refused, tag_done}
use Rattle.scan.proofs.bytes.tag.Goals as goal

pub returns-in_err-rest-clause-value : goal.returns-in_err-rest-clause-value
returns-in_err-rest-clause-value g c =
    let p = err_from_is_err_and c.from_residual.result c.from_residual.ensures.1 in
    rw (p.1, p.2) (tag_fails c.args.wanted.now c.loop-c.c-index c.in_err-rest.field-0.0 c.loop-c.rest.now (tag_at c.args.wanted.now c.args.text.now) c.loop-c-test.true c.in_err-rest.ensures.value c.loop-c.invariant.0)

pub returns-in_err-rest-clause-refusal : goal.returns-in_err-rest-clause-refusal
returns-in_err-rest-clause-refusal g c =
    let p = err_from_is_err_and c.from_residual.result c.from_residual.ensures.1 in
    rw (p.1, p.2) (tag_refused c.args.kinds c.args.wanted.now c.loop-c.c-index c.args.text.now c.loop-c.rest.now c.in_err-rest.field-0.0 c.loop-c-test.true c.in_err-rest.ensures.value c.in_err-rest.ensures.refusal c.loop-c.invariant.1)

pub loop-c-preserved : goal.loop-c-preserved
loop-c-preserved g c = tag_more c.args.wanted.now c.loop-c.c-index c.args.text.now c.loop-c.rest.now c.in_ok-rest.rest.now (tag_at c.args.wanted.now c.args.text.now) c.loop-c-test.true c.in_ok-rest.ensures.value c.loop-c.invariant.0 c.loop-c.invariant.1

pub returns-clause-value : goal.returns-clause-value
returns-clause-value g c = tag_done c.args.wanted.now c.loop-c.c-index c.loop-c.rest.now (tag_at c.args.wanted.now c.args.text.now) c.loop-c-test.false c.loop-c.invariant.0
