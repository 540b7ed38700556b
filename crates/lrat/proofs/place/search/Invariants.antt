use Rattle.std.proofs.Common.{◌<◌, ◌≤◌, ◌-◌, ℕ, length, get_or}
use Rattle.lrat.specs.Places.{ids_of}
use Rattle.lrat.proofs.place.search.Given as goal

abbrev pub invariant-halving : goal.invariant-halving
invariant-halving l = record {
  fits : l.high ≤ length l.places;
  low : (k : ℕ) → k < l.low → get_or (ids_of l.places) k 0 < l.id;
  high : (k : ℕ) → l.high ≤ k → k < length l.places → l.id < get_or (ids_of l.places) k 0;
}

abbrev pub decreases-halving : goal.decreases-halving
decreases-halving l = l.high - l.low
