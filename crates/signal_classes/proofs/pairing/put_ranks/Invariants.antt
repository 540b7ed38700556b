use Rattle.std.proofs.Common.{◌≡◌, length}
use Rattle.signal_classes.proofs.pairing.put_ranks.Given as goal

abbrev pub invariant-loop-place : goal.invariant-loop-place
invariant-loop-place l = length l.ranks ≡ length l.initial.ranks
