use Rattle.std.proofs.Common.{◌≡◌}
use Rattle.signal_implications.proofs.nearby.near.Given as goal

abbrev pub invariant-loop-place : goal.invariant-loop-place
invariant-loop-place l = l.nearby ≡ l.fn.most
