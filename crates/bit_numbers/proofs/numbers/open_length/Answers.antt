use Rattle.std.proofs.Common.{arith}
use Rattle.bit_numbers.proofs.NumberLaws.{open_long}
use Rattle.bit_numbers.proofs.numbers.open_length.Goals as goal

pub returns-in-len2-up : goal.returns-in-len2-up
returns-in-len2-up c = open_long c.args.bits.now (omega (arith, c.in-len2-up.len_at_least))
