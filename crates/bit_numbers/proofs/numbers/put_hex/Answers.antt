use Rattle.std.proofs.Common.{◌∙◌, ◌+◌, ◌/◌, ap, arith, length}
use Rattle.base.proofs.Putting.{puts_err}
use Rattle.bit_numbers.specs.Numbers.{digit_of, hex_below, number_of}
use Rattle.bit_numbers.proofs.NumberLaws.{hex_all, hex_cut, hex_more}
use Rattle.bit_numbers.proofs.numbers.put_hex.Goals as goal

pub loop-k-preserved : goal.loop-k-preserved
loop-k-preserved g c =
    let bits = c.args.bits.now in
    let is = c.digit.ensures ∙ ap (λ b. digit_of (number_of b)) c.bits_of_digit.ensures.bits in
    record {
      steady = c.in_ok-put_all.ensures.counts ∙ c.loop-k.invariant.steady;
      put = hex_more bits ((length bits + 3) / 4) c.loop-k.k c.digit.result (g.W.Sink.contents c.args.out.now) (g.W.Sink.contents c.loop-k.out) (g.W.Sink.contents c.put_all.new.out) (omega arith) is c.in_ok-put_all.ensures.whole
          c.loop-k.invariant.put;
    }

pub returns-in_err-put_all-clause-puts : goal.returns-in_err-put_all-clause-puts
returns-in_err-put_all-clause-puts g c =
    let bits = c.args.bits.now in
    let is = c.digit.ensures ∙ ap (λ b. digit_of (number_of b)) c.bits_of_digit.ensures.bits in
    puts_err c.from_residual.result (g.W.Sink.contents c.args.out.now) (g.W.Sink.contents c.put_all.new.out) (hex_below ((length bits + 3) / 4) bits) c.from_residual.ensures.0
    (hex_cut bits ((length bits + 3) / 4) c.loop-k.k c.digit.result (g.W.Sink.contents c.args.out.now) (g.W.Sink.contents c.loop-k.out) (g.W.Sink.contents c.put_all.new.out) (omega arith) is c.in_err-put_all.ensures.beginning
    c.loop-k.invariant.put)

pub returns-clause-puts : goal.returns-clause-puts
returns-clause-puts g c =
    let bits = c.args.bits.now in
    hex_all bits ((length bits + 3) / 4) c.loop-k.k (g.W.Sink.contents c.args.out.now) (g.W.Sink.contents c.loop-k.out) (omega arith) c.loop-k.invariant.put
