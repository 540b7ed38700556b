use Rattle.std.proofs.Common.{◌≡◌, length}
use Rattle.signal_rounds.proofs.search.Search.spread.Given as goal

abbrev pub invariant-spreading : goal.invariant-spreading
invariant-spreading l = length l.flips ≡ length l.initial.flips
