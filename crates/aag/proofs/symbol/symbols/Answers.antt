use Rattle.std.proofs.Common.{◌<◌, ◌≤◌, suc, length, sym, arith}
use Rattle.std.proofs.lemmas.Result.{err_from_is_err_and}
use Rattle.aag.proofs.SymbolSteps.{begins, goes_on, stops, refuses, runs_out}
use Rattle.aag.proofs.symbol.symbols.Goals as goal

pub loop-init : goal.loop-init
loop-init g c = rw c.in_ok-symbols.ensures (begins c.args.parts.now c.args.text.now)

pub returns-then-ends_symbols-clause-value : goal.returns-then-ends_symbols-clause-value
returns-then-ends_symbols-clause-value g c =
    let lt : c.loop.counter < suc (length c.args.text.now) = omega (arith, c.loop-test.true) in
    stops c.args.parts.now c.args.text.now c.loop.symbols c.loop.counter c.loop.rest.now lt (sym c.if-ends_symbols.ensures) c.loop.invariant

pub returns-then-ends_symbols-clause-counts : goal.returns-then-ends_symbols-clause-counts
returns-then-ends_symbols-clause-counts g c = c.loop.invariant.counts

pub returns-in_err-rest-clause-value : goal.returns-in_err-rest-clause-value
returns-in_err-rest-clause-value g c =
    let p = err_from_is_err_and c.from_residual-in_err-rest.result c.from_residual-in_err-rest.ensures.1 in
    let lt : c.loop.counter < suc (length c.args.text.now) = omega (arith, c.loop-test.true) in
    rw (p.1, p.2) (refuses c.args.parts.now c.args.text.now c.loop.symbols c.loop.counter c.loop.rest.now c.in_err-rest.field-0.0 lt (sym c.if-ends_symbols.ensures) c.in_err-rest.ensures.refused c.loop.invariant)

pub loop-preserved : goal.loop-preserved
loop-preserved g c =
    let lt : c.loop.counter < suc (length c.args.text.now) = omega (arith, c.loop-test.true) in
    goes_on c.args.parts.now c.args.text.now c.loop.symbols c.add_symbol.new.symbols c.loop.counter c.loop.rest.now c.in_ok-rest.rest.now lt (sym c.if-ends_symbols.ensures) c.in_ok-rest.ensures.added c.loop.invariant

pub returns-clause-value : goal.returns-clause-value
returns-clause-value g c =
    let le : suc (length c.args.text.now) ≤ c.loop.counter = omega (arith, c.loop-test.false) in
    runs_out c.args.parts.now c.args.text.now c.loop.symbols c.loop.counter c.loop.rest.now le c.loop.invariant
