use Rattle.std.proofs.Common.{◌≡◌, ◌≤◌, ◌<◌, get_or, sym, ◌∙◌, arith, true, false}
use Rattle.std.specs.Char.{is_ascii_digit}
use Rattle.scan.proofs.Digits.{digit_from, digits_stop, digits_more, digits_past, digits_end}
use Rattle.scan.proofs.numbers.more_digits.Goals as goal
use Rattle.scan.proofs.numbers.more_digits.Goals.{then-value-from, else-value-from}

pub returns-then-not-is_ascii_digit-clause-value : goal.returns-then-not-is_ascii_digit-clause-value
returns-then-not-is_ascii_digit-clause-value c =
    let e : is_ascii_digit (get_or c.args.text.now c.loop-i.i 0) ≡ false = cc c.is_ascii_digit.ensures.value in
    sym (digits_stop c.args.limit c.loop-i.value c.args.text.now c.loop-i.i c.loop-i-test.true e) ∙ c.loop-i.invariant.0

pub loop-i-preserved : goal.loop-i-preserved
loop-i-preserved c =
    let e : is_ascii_digit (get_or c.args.text.now c.loop-i.i 0) ≡ true = cc c.is_ascii_digit.ensures.value in
    elim c.if-value-from.branch [
      | then-value-from w ↦
          let le : c.loop-i.value ≤ c.args.limit = omega arith in
          let one = digits_more c.args.limit c.loop-i.value c.args.text.now c.loop-i.i c.loop-i-test.true e le in
          (rw (w.value-is, w.from-then-value-from.ensures) (sym one ∙ c.loop-i.invariant.0), let d = digit_from (get_or c.args.text.now c.loop-i.i 0) e in omega arith)
      | else-value-from w ↦
          let gt : c.args.limit < c.loop-i.value = omega arith in
          let one = digits_past c.args.limit c.loop-i.value c.args.text.now c.loop-i.i c.loop-i-test.true e gt in
          (rw w.value-is (sym one ∙ c.loop-i.invariant.0), omega arith)
    ]

pub returns-clause-value : goal.returns-clause-value
returns-clause-value c =
    sym (digits_end c.args.limit c.loop-i.value c.args.text.now c.loop-i.i c.loop-i-test.false) ∙ c.loop-i.invariant.0
