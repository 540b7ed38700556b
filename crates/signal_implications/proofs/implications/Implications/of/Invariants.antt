use Rattle.std.proofs.Common.{◌≡◌, length}
use Rattle.signal_implications.proofs.implications.Implications.of.Given as goal

abbrev pub invariant-loop-candidate : goal.invariant-loop-candidate
invariant-loop-candidate l = length l.list.items ≡ l.candidate-index
