use Rattle.std.proofs.Common.{◌≡◌, drop}
use Rattle.bit_numbers.specs.Numbers.{are_known}
use Rattle.bit_numbers.proofs.numbers.are_known.Given as goal

abbrev pub invariant-loop-bit : goal.invariant-loop-bit
invariant-loop-bit l = are_known l.bits ≡ are_known (drop l.bit-index l.bits)
