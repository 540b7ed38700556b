use Rattle.std.proofs.Common.{◌≤◌, rules, arith, decimal, length}
use Rattle.std.proofs.lemmas.Fmt.{length-decimal-le}
use Rattle.aag.proofs.pieces.write_number.Goals as goal

pub write_digits-requires : goal.write_digits-requires
write_digits-requires c =
    let digits : length (decimal c.from.result) ≤ 10 = length-decimal-le 10 c.from.result (omega arith) (omega arith) (rw c.from.ensures (omega (arith, c.ranges.number.fits))) in
    (omega (arith, digits, c.requires.room), search rules)

pub returns-clause-short : goal.returns-clause-short
returns-clause-short c =
    let digits : length (decimal c.from.result) ≤ 10 = length-decimal-le 10 c.from.result (omega arith) (omega arith) (rw c.from.ensures (omega (arith, c.ranges.number.fits))) in
    omega (arith, digits, c.write_digits.ensures.start, c.requires.room)
