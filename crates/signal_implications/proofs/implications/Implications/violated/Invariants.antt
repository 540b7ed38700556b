use Rattle.std.proofs.Common.{◌≤◌, length}
use Rattle.signal_implications.proofs.implications.Implications.violated.Given as goal

abbrev pub invariant-loop-place : goal.invariant-loop-place
invariant-loop-place l = length l.violated.items ≤ l.fn.most
