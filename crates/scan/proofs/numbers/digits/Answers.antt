use Rattle.std.proofs.Common.{◌≡◌, ◌<◌, ◌≤◌, ◌+◌, ◌-◌, ◌*◌, length, get_or, take, drop, true, false, refl, sym, ap, ◌∙◌, arith}
use Rattle.std.specs.Char.{is_ascii_digit}
use Rattle.std.proofs.lemmas.List.{get_or-take, length-take-le, take_rest}
use Rattle.scan.specs.Numbers.{at_most, digits_after}
use Rattle.scan.proofs.Digits.{digit_from, digits_none, digits_on, digits_stop, most_first, most_next, most_nine}
use Rattle.scan.proofs.numbers.digits.Goals as goal

pub loop-i-init : goal.loop-i-init
loop-i-init c = (rw c.from-value.ensures refl, omega (arith, most_first, c.from-value.ensures, c.requires))

pub returns-then-not-has_digit-clause-value : goal.returns-then-not-has_digit-clause-value
returns-then-not-has_digit-clause-value c =
    let text = c.args.text.now in
    rw c.from.ensures (ap (at_most c.args.limit) (sym (digits_none c.args.limit c.args.first text (sym c.has_digit.ensures ∙ c.if-not-has_digit.true))))

pub returns-then-not-is_ascii_digit-clause-value : goal.returns-then-not-is_ascii_digit-clause-value
returns-then-not-is_ascii_digit-clause-value c =
    let n = c.min-near.result in
    let text = c.args.text.now in
    let i = c.loop-i.i in
    let within : n ≤ length text = omega (arith, c.min-near.ensures) in
    let lt : i < n = omega (arith, c.loop-i-test.true, length-take-le n text within) in
    let e : is_ascii_digit (get_or text i 0) ≡ false = ap is_ascii_digit (sym (get_or-take n text i 0 lt)) ∙ sym c.is_ascii_digit.ensures.value ∙ c.if-not-is_ascii_digit.true in
    ap (at_most c.args.limit) (sym (digits_stop c.args.limit c.loop-i.value text i (omega (arith, lt, within)) e)) ∙ c.loop-i.invariant.0

pub overflow_mul-value : goal.overflow_mul-value
overflow_mul-value c =
    let n = c.min-near.result in
    let text = c.args.text.now in
    let within : n ≤ length text = omega (arith, c.min-near.ensures) in
    let lt : c.loop-i.i ≤ 9 = omega (arith, c.loop-i-test.true, length-take-le n text within, c.min-near.ensures) in
    omega (arith, c.loop-i.invariant.1, most_nine c.loop-i.i lt)

pub overflow_add-value : goal.overflow_add-value
overflow_add-value c =
    let n = c.min-near.result in
    let text = c.args.text.now in
    let within : n ≤ length text = omega (arith, c.min-near.ensures) in
    let lt : c.loop-i.i ≤ 9 = omega (arith, c.loop-i-test.true, length-take-le n text within, c.min-near.ensures) in
    let d = digit_from (get_or (take n text) c.loop-i.i 0) (sym c.is_ascii_digit.ensures.value ∙ c.if-not-is_ascii_digit.false) in
    omega (arith, c.loop-i.invariant.1, most_nine c.loop-i.i lt, c.from-in-loop-i.ensures, d)

pub loop-i-preserved : goal.loop-i-preserved
loop-i-preserved c =
    let n = c.min-near.result in
    let text = c.args.text.now in
    let i = c.loop-i.i in
    let v = c.loop-i.value in
    let within : n ≤ length text = omega (arith, c.min-near.ensures) in
    let lt : i < n = omega (arith, c.loop-i-test.true, length-take-le n text within) in
    let same : get_or (take n text) i 0 ≡ get_or text i 0 = get_or-take n text i 0 lt in
    let e : is_ascii_digit (get_or text i 0) ≡ true = ap is_ascii_digit (sym same) ∙ sym c.is_ascii_digit.ensures.value ∙ c.if-not-is_ascii_digit.false in
    let d = digit_from (get_or text i 0) e in
    let is : v * 10 + c.from-in-loop-i.result ≡ v * 10 + (get_or text i 0 - 48) = ap (λ k. v * 10 + k) (c.from-in-loop-i.ensures ∙ ap (λ k. k - 48) same) in (
      sym (digits_on c.args.limit v (v * 10 + c.from-in-loop-i.result) text i (omega (arith, lt, within)) e is) ∙ c.loop-i.invariant.0,
      omega (arith, c.loop-i.invariant.1, most_next i, d, is),
    )

pub more_digits-requires : goal.more_digits-requires
more_digits-requires c =
    let n = c.min-near.result in
    let text = c.args.text.now in
    let within : n ≤ length text = omega (arith, c.min-near.ensures) in
    let le : c.loop-i.i ≤ 9 = omega (arith, c.loop-i.auto.i-end, length-take-le n text within, c.min-near.ensures) in
    omega (arith, c.loop-i.invariant.1, most_nine c.loop-i.i le)

pub returns-clause-value : goal.returns-clause-value
returns-clause-value c =
    let n = c.min-near.result in
    let text = c.args.text.now in
    let within : n ≤ length text = omega (arith, c.min-near.ensures) in
    let end : c.loop-i.i ≡ n = omega (arith, c.loop-i-test.false, c.loop-i.auto.i-end, length-take-le n text within) in
    ap (at_most c.args.limit) (c.more_digits.ensures.value ∙ ap (digits_after c.args.limit c.loop-i.value) (take_rest text n ∙ ap (λ k. drop k text) (sym end))) ∙ c.loop-i.invariant.0
