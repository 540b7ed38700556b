use Rattle.std.proofs.Common.{◌≡◌, drop}
use Rattle.bit_numbers.specs.Numbers.{number_of}
use Rattle.bit_numbers.proofs.numbers.number.Given as goal

abbrev pub invariant-loop-k : goal.invariant-loop-k
invariant-loop-k l = l.number ≡ number_of (drop l.k l.bits)
