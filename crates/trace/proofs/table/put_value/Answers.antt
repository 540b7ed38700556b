use Rattle.std.proofs.Common.{◌≡◌, ◌-◌, ◌∙◌, ◌++◌, ap, length}
use Rattle.std.specs.Prelude.{codes}
use Rattle.base.proofs.Putting.{puts_then}
use Rattle.stimulus.proofs.WriteLaws.{first_fails}
use Rattle.bit_numbers.specs.Numbers.{number_text}
use Rattle.trace.specs.Widths.{at_right, spaces}
use Rattle.trace.proofs.table.put_value.Goals as goal

pub returns-in_err-put_all-clause-puts : goal.returns-in_err-put_all-clause-puts
returns-in_err-put_all-clause-puts g c = first_fails c.from_residual.result _ _ (codes " ") (at_right c.args.width (number_text c.args.bits.now)) c.from_residual.ensures.0 c.in_err-put_all.ensures.beginning

pub returns-in_err-put_spaces-clause-puts : goal.returns-in_err-put_spaces-clause-puts
returns-in_err-put_spaces-clause-puts g c =
    let number = number_text c.args.bits.now in
    let before = spaces (c.args.width - length number) in
    let r = c.from_residual-in_err-put_spaces in
    let count : c.saturating_sub.result ≡ c.args.width - length (number_text c.args.bits.now) = c.saturating_sub.ensures ∙ ap (λ n. c.args.width - n) c.number_length.ensures in
    puts_then r.result _ (g.W.Sink.contents c.put_all.new.out) _ (codes " ") (before ++ number) c.in_ok-put_all.ensures.whole
    (first_fails r.result _ _ before number r.ensures.0 (rw count at c.in_err-put_spaces.ensures.puts))

pub returns-clause-puts : goal.returns-clause-puts
returns-clause-puts g c =
    let number = number_text c.args.bits.now in
    let before = spaces (c.args.width - length number) in
    let count : c.saturating_sub.result ≡ c.args.width - length (number_text c.args.bits.now) = c.saturating_sub.ensures ∙ ap (λ n. c.args.width - n) c.number_length.ensures in
    puts_then c.put_number.result _ (g.W.Sink.contents c.put_all.new.out) _ (codes " ") (before ++ number) c.in_ok-put_all.ensures.whole
    (puts_then c.put_number.result _ (g.W.Sink.contents c.put_spaces.new.out) _ before number (rw count at c.in_ok-put_spaces.ensures.puts) c.put_number.ensures.puts)
