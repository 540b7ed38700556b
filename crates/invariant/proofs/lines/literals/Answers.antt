use Rattle.std.proofs.Common.{◌<◌, ◌≤◌, suc, length, arith}
use Rattle.std.proofs.lemmas.Result.{err_from_is_err_and}
use Rattle.invariant.specs.Reading.{literals_at}
use Rattle.invariant.proofs.LiteralLoop.{literals_more, literals_stop, literals_fail, literals_over}
use Rattle.invariant.proofs.lines.literals.Goals as goal

pub returns-in_err-literal : goal.returns-in_err-literal
returns-in_err-literal c =
    let p = err_from_is_err_and c.from_residual.result c.from_residual.ensures.1 in
    let all = suc (length c.args.text.now) in
    let lt : c.loop.counter < all = omega (arith, c.loop-test.true) in
    rw (p.1, p.2) (literals_fail c.in_err-literal.field-0.0 c.loop.literals.items all c.loop.counter c.loop.rest.now (literals_at all c.args.text.now) lt c.in_err-literal.ensures.value c.loop.invariant)

pub returns-then-end-eq10 : goal.returns-then-end-eq10
returns-then-end-eq10 c =
    let all = suc (length c.args.text.now) in
    let lt : c.loop.counter < all = omega (arith, c.loop-test.true) in
    rw c.in_ok-push.ensures.items (literals_stop c.loop.literals.items all c.loop.counter c.in_ok-literal.literal c.in_ok-literal.end c.loop.rest.now c.in_ok-literal.after.now (literals_at all c.args.text.now) lt c.if-end-eq10.true c.in_ok-literal.ensures.value c.loop.invariant)

pub loop-preserved : goal.loop-preserved
loop-preserved c =
    let all = suc (length c.args.text.now) in
    let lt : c.loop.counter < all = omega (arith, c.loop-test.true) in
    rw c.in_ok-push.ensures.items (literals_more c.loop.literals.items all c.loop.counter c.in_ok-literal.literal c.in_ok-literal.end c.loop.rest.now c.in_ok-literal.after.now (literals_at all c.args.text.now) lt c.if-end-eq10.false c.in_ok-literal.ensures.value c.loop.invariant)

pub returns : goal.returns
returns c =
    let all = suc (length c.args.text.now) in
    let le : all ≤ c.loop.counter = omega (arith, c.loop-test.false) in
    literals_over c.loop.literals.items all c.loop.counter c.loop.rest.now (literals_at all c.args.text.now) le c.loop.invariant
