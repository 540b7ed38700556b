use Rattle.std.proofs.Common.{◌∙◌, arith}
use Rattle.base.proofs.Putting.{puts_err}
use Rattle.bit_numbers.specs.Numbers.{binary_text}
use Rattle.bit_numbers.proofs.NumberLaws.{binary_all, binary_cut, binary_more}
use Rattle.bit_numbers.proofs.numbers.put_binary.Goals as goal

pub loop-k-preserved : goal.loop-k-preserved
loop-k-preserved g c =
    record {
      steady = c.in_ok-put_all.ensures.counts ∙ c.loop-k.invariant.steady;
      put = binary_more c.args.bits.now c.loop-k.k c.binary_digit.result _ (g.W.Sink.contents c.args.out.now) (g.W.Sink.contents c.loop-k.out) (g.W.Sink.contents c.put_all.new.out) (omega arith) (omega arith) c.binary_digit.ensures
          c.in_ok-put_all.ensures.whole c.loop-k.invariant.put;
    }

pub returns-in_err-put_all-clause-puts : goal.returns-in_err-put_all-clause-puts
returns-in_err-put_all-clause-puts g c =
    puts_err c.from_residual.result (g.W.Sink.contents c.args.out.now) (g.W.Sink.contents c.put_all.new.out) (binary_text c.args.bits.now) c.from_residual.ensures.0
    (binary_cut c.args.bits.now c.loop-k.k c.binary_digit.result _ (g.W.Sink.contents c.args.out.now) (g.W.Sink.contents c.loop-k.out) (g.W.Sink.contents c.put_all.new.out) (omega arith) (omega arith) c.binary_digit.ensures
    c.in_err-put_all.ensures.beginning c.loop-k.invariant.put)

pub returns-clause-puts : goal.returns-clause-puts
returns-clause-puts g c =
    binary_all c.args.bits.now c.loop-k.k (g.W.Sink.contents c.args.out.now) (g.W.Sink.contents c.loop-k.out) (omega arith) c.loop-k.invariant.put
