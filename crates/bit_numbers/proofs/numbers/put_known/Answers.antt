use Rattle.std.proofs.Common.{◌+◌, ◌/◌, length, subst, sym}
use Rattle.std.specs.Prelude.{codes}
use Rattle.base.specs.Devices.{Puts}
use Rattle.base.proofs.Putting.{puts_then}
use Rattle.stimulus.proofs.WriteLaws.{first_fails}
use Rattle.bit_numbers.specs.Numbers.{hex_below}
use Rattle.bit_numbers.proofs.NumberLaws.{hex_number}
use Rattle.bit_numbers.proofs.numbers.put_known.Goals as goal

pub returns-in_err-put_all-clause-puts : goal.returns-in_err-put_all-clause-puts
returns-in_err-put_all-clause-puts g c =
    let bits = c.args.bits.now in
    let r = c.from_residual in
    subst (Puts r.result (g.W.Sink.contents c.args.out.now) (g.W.Sink.contents c.put_all-2.new.out)) (sym (hex_number bits c.if-bits-le64.false))
    (first_fails r.result _ _ (codes "0x") (hex_below ((length bits + 3) / 4) bits) r.ensures.0 c.in_err-put_all.ensures.beginning)

pub returns-clause-puts : goal.returns-clause-puts
returns-clause-puts g c =
    let bits = c.args.bits.now in
    let r = c.put_hex in
    subst (Puts r.result (g.W.Sink.contents c.args.out.now) (g.W.Sink.contents r.new.out)) (sym (hex_number bits c.if-bits-le64.false))
    (puts_then r.result _ (g.W.Sink.contents c.put_all-2.new.out) _ (codes "0x") (hex_below ((length bits + 3) / 4) bits) c.in_ok-put_all.ensures.whole r.ensures.puts)
