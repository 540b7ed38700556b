use Rattle.std.proofs.Common.{subst}
use Rattle.base.specs.Devices.{Puts}
use Rattle.base.proofs.Putting.{puts_then}
use Rattle.aag.proofs.PieceLaws.{first_fails, word}
use Rattle.aig.proofs.PieceLaws.{long_is, short_is}
use Rattle.aig.proofs.pieces.LatchLinePiece.put.Goals as goal

pub returns-then-item-eq0-clause-puts : goal.returns-then-item-eq0-clause-puts
returns-then-item-eq0-clause-puts g c =
    let last = c.put_number in
    subst (Puts last.result _ _) (short_is c.args.item.now c.if-item-eq0.true) last.ensures.puts

pub returns-in_err-put_number-clause-puts : goal.returns-in_err-put_number-clause-puts
returns-in_err-put_number-clause-puts g c =
    let latch = c.args.item.now in
    let r = c.from_residual in
    subst (Puts r.result _ _) (long_is latch c.if-item-eq0.false) (first_fails r.result _ _ (word latch.next.0 32) _ r.ensures.0 c.in_err-put_number.ensures.puts)

pub returns-clause-puts : goal.returns-clause-puts
returns-clause-puts g c =
    let latch = c.args.item.now in
    let last = c.put_number-3 in
    subst (Puts last.result _ _) (long_is latch c.if-item-eq0.false)
    (puts_then last.result _ (g.W.Sink.contents c.put_number-2.new.out) _ (word latch.next.0 32) _ c.in_ok-put_number.ensures.puts last.ensures.puts)
