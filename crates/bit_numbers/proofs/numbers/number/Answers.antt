use Rattle.std.proofs.Common.{arith}
use Rattle.bit_numbers.proofs.NumberLaws.{number_done, number_room}
use Rattle.bit_numbers.proofs.numbers.number.Goals as goal

pub overflow_mul-number : goal.overflow_mul-number
overflow_mul-number c =
    let room = number_room c.args.bits.now c.loop-k.k (omega arith) (omega arith) c.requires in
    let is = c.loop-k.invariant in
    omega (arith, room, is)

pub overflow_add-number : goal.overflow_add-number
overflow_add-number c =
    let room = number_room c.args.bits.now c.loop-k.k (omega arith) (omega arith) c.requires in
    let is = c.loop-k.invariant in
    let one = c.number_of_bit.ensures.small in
    omega (arith, room, is, one)

pub returns-clause-small : goal.returns-clause-small
returns-clause-small c = number_done c.args.bits.now c.loop-k.k c.loop-k.number (omega arith) c.loop-k.invariant
