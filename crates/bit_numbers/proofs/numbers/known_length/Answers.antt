use Rattle.std.proofs.Common.{◌≡◌, ◌+◌, ◌/◌, ℕ, List, length, length-append, ap, arith, refl}
use Rattle.std.specs.Prelude.{codes}
use Rattle.bit_numbers.specs.Numbers.{hex_below}
use Rattle.bit_numbers.proofs.NumberLaws.{hex_number}
use Rattle.bit_numbers.proofs.NumberLaws.{hex_long}
use Rattle.bit_numbers.proofs.numbers.known_length.Goals as goal

pub returns-else-bits-le64 : goal.returns-else-bits-le64
returns-else-bits-le64 c =
    let bits = c.args.bits.now in
    let digits = hex_below ((length bits + 3) / 4) bits in
    let whole = ap (λ (t : List ℕ). length t) (hex_number bits c.if-bits-le64.false) in
    let parts = length-append (codes "0x") digits in
    let two : length (codes "0x") ≡ 2 = refl in
    let long = hex_long ((length bits + 3) / 4) bits in
    omega (arith, whole, parts, two, long, c.div_ceil.ensures)
