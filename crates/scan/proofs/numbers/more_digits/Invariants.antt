use Rattle.std.proofs.Common.{◌≡◌, ◌≤◌, ◌*◌, ◌+◌, drop}
use Rattle.scan.specs.Numbers.{digits_after}
use Rattle.scan.proofs.numbers.more_digits.Given as goal

abbrev pub invariant-loop-i : goal.invariant-loop-i
invariant-loop-i l =
    (digits_after l.limit l.value (drop l.i l.text) ≡ digits_after l.limit l.first l.text) × (l.value ≤ l.limit * 10 + 9 + l.first)
