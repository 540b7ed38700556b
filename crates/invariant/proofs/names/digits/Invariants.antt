use Rattle.std.proofs.Common.{◌≡◌, ◌≤◌, drop}
use Rattle.scan.specs.Numbers.{digits_after}
use Rattle.invariant.proofs.names.digits.Given as goal

abbrev pub invariant-loop-i : goal.invariant-loop-i
invariant-loop-i l = (digits_after 4294967295 l.value (drop l.i l.text) ≡ digits_after 4294967295 0 l.text) × (l.value ≤ 42949672959)
