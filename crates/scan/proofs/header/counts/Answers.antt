use Rattle.std.proofs.Common.{◌≤◌, arith}
use Rattle.std.proofs.lemmas.Result.{err_from_is_err_and}
use Rattle.std.proofs.lemmas.List.Elements.{All-set}
use Rattle.scan.specs.Counts.{counts_at}
use Rattle.scan.proofs.CountLoop.{counts_stop, counts_go, counts_fail, counts_done}
use Rattle.scan.proofs.CountFaults.{behind_more, count_refused}
use Rattle.scan.proofs.header.counts.Goals as goal

pub returns-in_err-count-clause-value : goal.returns-in_err-count-clause-value
returns-in_err-count-clause-value g c =
    let p = err_from_is_err_and c.from_residual.result c.from_residual.ensures.1 in
    rw (p.1, p.2) (counts_fail c.args.limit c.loop-i.i c.in_err-count.field-0.0 c.loop-i.counts c.loop-i.rest.now (counts_at c.args.limit 8 c.args.text.now) c.loop-i-test.true c.in_err-count.ensures.value c.loop-i.invariant.0)

pub returns-then-end-eq10-clause-value : goal.returns-then-end-eq10-clause-value
returns-then-end-eq10-clause-value g c =
    counts_stop c.args.limit c.loop-i.i c.in_ok-count.count c.in_ok-count.end c.loop-i.counts c.loop-i.rest.now c.in_ok-count.after.now (counts_at c.args.limit 8 c.args.text.now) c.loop-i-test.true c.if-end-eq10.true c.in_ok-count.ensures.value c.loop-i.invariant.2 c.loop-i.invariant.1 c.loop-i.invariant.0

pub returns-then-end-eq10-clause-within : goal.returns-then-end-eq10-clause-within
returns-then-end-eq10-clause-within g c = All-set (λ n. n ≤ c.args.limit) c.loop-i.counts c.loop-i.i c.in_ok-count.count c.in_ok-count.ensures.within c.loop-i.invariant.3

pub loop-i-preserved : goal.loop-i-preserved
loop-i-preserved g c =
    let more = counts_go c.args.limit c.loop-i.i c.in_ok-count.count c.in_ok-count.end c.loop-i.counts c.loop-i.rest.now c.in_ok-count.after.now (counts_at c.args.limit 8 c.args.text.now) c.loop-i-test.true c.if-end-eq10.false c.in_ok-count.ensures.value c.loop-i.invariant.2 c.loop-i.invariant.1 c.loop-i.invariant.0 in
    (more.0, more.1, more.2, All-set (λ n. n ≤ c.args.limit) c.loop-i.counts c.loop-i.i c.in_ok-count.count c.in_ok-count.ensures.within c.loop-i.invariant.3, omega (arith, c.in_ok-count.ensures.shorter, c.loop-i.invariant.4), behind_more c.args.limit c.loop-i.i c.in_ok-count.count c.in_ok-count.end c.args.text.now c.loop-i.rest.now c.in_ok-count.after.now (omega arith) c.loop-i-test.true c.if-end-eq10.false c.in_ok-count.ensures.value c.loop-i.invariant.5)

pub returns-clause-value : goal.returns-clause-value
returns-clause-value g c = counts_done c.args.limit c.loop-i.i c.loop-i.counts c.loop-i.rest.now (counts_at c.args.limit 8 c.args.text.now) c.loop-i-test.false c.loop-i.invariant.2 c.loop-i.invariant.0

pub returns-in_err-count-clause-refusal : goal.returns-in_err-count-clause-refusal
returns-in_err-count-clause-refusal g c =
    let p = err_from_is_err_and c.from_residual.result c.from_residual.ensures.1 in
    rw (p.1, p.2) (count_refused c.args.kinds c.args.limit c.loop-i.i c.args.text.now c.loop-i.rest.now c.in_err-count.field-0.0 c.loop-i-test.true c.in_err-count.ensures.value c.in_err-count.ensures.refusal c.loop-i.invariant.5)
