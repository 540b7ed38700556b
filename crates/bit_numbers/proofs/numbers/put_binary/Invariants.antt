use Rattle.std.proofs.Common.{◌≡◌}
use Rattle.bit_numbers.proofs.NumberLaws.{BinaryPut}
use Rattle.bit_numbers.proofs.numbers.put_binary.Given as goal

abbrev pub invariant-loop-k : goal.invariant-loop-k
invariant-loop-k g l = record {
  steady : g.W.Sink.failed l.out ≡ g.W.Sink.failed l.initial.out;
  put : BinaryPut l.bits l.k (g.W.Sink.contents l.initial.out) (g.W.Sink.contents l.out);
}
