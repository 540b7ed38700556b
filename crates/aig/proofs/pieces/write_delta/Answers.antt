use Rattle.std.proofs.Common.{◌∙◌, ◌<◌, ◌+◌, ◌/◌, ◌%◌, ◌++◌, ◌∷◌, drop, ap, arith}
use Rattle.aig.proofs.PieceLaws.{delta_last, delta_two, delta_three, delta_four, delta_five}
use Rattle.aig.proofs.pieces.write_delta.Goals as goal

pub returns-then-number-lt128-clause-written : goal.returns-then-number-lt128-clause-written
returns-then-number-lt128-clause-written c =
    let tail = drop c.args.end c.args.block.now in
    c.write_byte.ensures.written ∙ ap (λ w. w ++ tail) (delta_last c.args.number c.if-number-lt128.true)

pub returns-then-rest-lt128-clause-written : goal.returns-then-rest-lt128-clause-written
returns-then-rest-lt128-clause-written c =
    let n = c.args.number in
    let tail = drop c.args.end c.args.block.now in
    c.write_byte-then-rest-lt128.ensures.written
    ∙ ap (λ w. (128 + n % 128) ∷ w) c.write_byte-start.ensures.written
    ∙ ap (λ w. w ++ tail) (delta_two n c.if-number-lt128.false c.if-rest-lt128.true)

pub returns-then-rest-lt128-2-clause-written : goal.returns-then-rest-lt128-2-clause-written
returns-then-rest-lt128-2-clause-written c =
    let n = c.args.number in
    let tail = drop c.args.end c.args.block.now in
    c.write_byte-then-rest-lt128-2.ensures.written
    ∙ ap (λ w. (128 + n % 128) ∷ w) c.write_byte-start-then-rest-lt128-2-2.ensures.written
    ∙ ap (λ w. (128 + n % 128) ∷ (128 + n / 128 % 128) ∷ w) c.write_byte-start-then-rest-lt128-2.ensures.written
    ∙ ap (λ w. w ++ tail) (delta_three n c.if-number-lt128.false c.if-rest-lt128.false c.if-rest-lt128-2.true)

pub returns-then-rest-lt128-3-clause-written : goal.returns-then-rest-lt128-3-clause-written
returns-then-rest-lt128-3-clause-written c =
    let n = c.args.number in
    let tail = drop c.args.end c.args.block.now in
    c.write_byte-then-rest-lt128-3.ensures.written
    ∙ ap (λ w. (128 + n % 128) ∷ w) c.write_byte-start-then-rest-lt128-3-3.ensures.written
    ∙ ap (λ w. (128 + n % 128) ∷ (128 + n / 128 % 128) ∷ w) c.write_byte-start-then-rest-lt128-3-2.ensures.written
    ∙ ap (λ w. (128 + n % 128) ∷ (128 + n / 128 % 128) ∷ (128 + n / 128 / 128 % 128) ∷ w) c.write_byte-start-then-rest-lt128-3.ensures.written
    ∙ ap (λ w. w ++ tail) (delta_four n c.if-number-lt128.false c.if-rest-lt128.false c.if-rest-lt128-2.false c.if-rest-lt128-3.true)

pub returns-clause-written : goal.returns-clause-written
returns-clause-written c =
    let n = c.args.number in
    let tail = drop c.args.end c.args.block.now in
    let small : c.args.number < 4294967296 = omega (arith, c.ranges.number.fits) in
    c.write_byte-2.ensures.written
    ∙ ap (λ w. (128 + n % 128) ∷ w) c.write_byte-start-5.ensures.written
    ∙ ap (λ w. (128 + n % 128) ∷ (128 + n / 128 % 128) ∷ w) c.write_byte-start-4.ensures.written
    ∙ ap (λ w. (128 + n % 128) ∷ (128 + n / 128 % 128) ∷ (128 + n / 128 / 128 % 128) ∷ w) c.write_byte-start-3.ensures.written
    ∙ ap (λ w. (128 + n % 128) ∷ (128 + n / 128 % 128) ∷ (128 + n / 128 / 128 % 128) ∷ (128 + n / 128 / 128 / 128 % 128) ∷ w) c.write_byte-start-2.ensures.written
    ∙ ap (λ w. w ++ tail) (delta_five n small c.if-number-lt128.false c.if-rest-lt128.false c.if-rest-lt128-2.false c.if-rest-lt128-3.false)
