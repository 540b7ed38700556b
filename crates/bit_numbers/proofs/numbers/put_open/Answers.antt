use Rattle.std.proofs.Common.{arith, subst, sym}
use Rattle.std.specs.Prelude.{codes}
use Rattle.base.specs.Devices.{Puts}
use Rattle.base.proofs.Putting.{puts_then}
use Rattle.stimulus.proofs.WriteLaws.{first_fails}
use Rattle.bit_numbers.specs.Numbers.{binary_text}
use Rattle.bit_numbers.proofs.NumberLaws.{open_several}
use Rattle.bit_numbers.proofs.numbers.put_open.Goals as goal

pub returns-in_err-put_all-in-len2-up-clause-puts : goal.returns-in_err-put_all-in-len2-up-clause-puts
returns-in_err-put_all-in-len2-up-clause-puts g c =
    let bits = c.args.bits.now in
    let r = c.from_residual in
    subst (Puts r.result (g.W.Sink.contents c.args.out.now) (g.W.Sink.contents c.put_all-in-len2-up.new.out)) (sym (open_several bits (omega (arith, c.in-len2-up.len_at_least))))
    (first_fails r.result _ _ (codes "0b") (binary_text bits) r.ensures.0 c.in_err-put_all-in-len2-up.ensures.beginning)

pub returns-in_ok-put_all-in-len2-up-clause-puts : goal.returns-in_ok-put_all-in-len2-up-clause-puts
returns-in_ok-put_all-in-len2-up-clause-puts g c =
    let bits = c.args.bits.now in
    let r = c.put_binary in
    subst (Puts r.result (g.W.Sink.contents c.args.out.now) (g.W.Sink.contents r.new.out)) (sym (open_several bits (omega (arith, c.in-len2-up.len_at_least))))
    (puts_then r.result _ (g.W.Sink.contents c.put_all-in-len2-up.new.out) _ (codes "0b") (binary_text bits) c.in_ok-put_all-in-len2-up.ensures.whole r.ensures.puts)
