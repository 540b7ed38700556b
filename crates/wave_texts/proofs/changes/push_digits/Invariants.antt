use Rattle.std.proofs.Common.{◌≡◌, ◌++◌, drop}
use Rattle.bit_numbers.specs.Numbers.{binary_text}
use Rattle.wave_texts.proofs.changes.push_digits.Given as goal

abbrev pub invariant-loop-k : goal.invariant-loop-k
invariant-loop-k l = l.text.items ≡ l.initial.text.items ++ binary_text (drop l.k l.bits)
