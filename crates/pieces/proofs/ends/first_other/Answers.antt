use Rattle.std.proofs.Common.{◌≡◌, ◌+◌, get_or, true, false, refl, arith}
use Rattle.pieces.specs.Pieces.{is_inner}
use Rattle.pieces.proofs.PieceLaws.{goes_more, ready_at}
use Rattle.pieces.proofs.ends.first_other.Goals as goal

pub returns-then-not-inner-clause-ready : goal.returns-then-not-inner-clause-ready
returns-then-not-inner-clause-ready c =
    let e : is_inner (get_or c.args.bytes.now c.loop-i.i 0) ≡ false = cc c.inner.ensures in
    (omega arith, ready_at c.args.bytes.now c.loop-i.i (c.loop-i.i + 1) c.loop-i-test.true refl e)

pub loop-i-preserved : goal.loop-i-preserved
loop-i-preserved c =
    let e : is_inner (get_or c.args.bytes.now c.loop-i.i 0) ≡ true = cc c.inner.ensures in
    goes_more c.args.bytes.now c.loop-i.i c.loop-i-test.true c.loop-i.invariant e
