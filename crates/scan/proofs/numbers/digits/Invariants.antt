use Rattle.std.proofs.Common.{◌≡◌, ◌<◌, drop}
use Rattle.scan.specs.Numbers.{at_most, digits_after}
use Rattle.scan.proofs.Digits.{most}
use Rattle.scan.proofs.numbers.digits.Given as goal

abbrev pub invariant-loop-i : goal.invariant-loop-i
invariant-loop-i l =
    (at_most l.limit (digits_after l.limit l.value (drop l.i l.text)) ≡ at_most l.limit (digits_after l.limit l.first l.text)) × (l.value < most l.i)
