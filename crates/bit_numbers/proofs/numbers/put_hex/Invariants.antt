use Rattle.std.proofs.Common.{◌≡◌, ◌+◌, ◌/◌, length}
use Rattle.bit_numbers.proofs.NumberLaws.{HexPut}
use Rattle.bit_numbers.proofs.numbers.put_hex.Given as goal

abbrev pub invariant-loop-k : goal.invariant-loop-k
invariant-loop-k g l = record {
  steady : g.W.Sink.failed l.out ≡ g.W.Sink.failed l.initial.out;
  put : HexPut l.bits ((length l.bits + 3) / 4) l.k (g.W.Sink.contents l.initial.out) (g.W.Sink.contents l.out);
}
