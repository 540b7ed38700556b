use Rattle.std.proofs.Common.{◌≡◌, ℕ, ◌+◌, ◌<◌, length, get_or}
use Rattle.graph.specs.Search.{lefts}
use Rattle.graph.proofs.ordering.places_of.Given as goal

abbrev pub invariant-loop-place : goal.invariant-loop-place
invariant-loop-place l = record {
  long : length l.places.items ≡ l.max_var + 1;
  each : (i : ℕ) → i < l.place → get_or l.places.items (get_or (lefts l.gates) i 0) 0 ≡ i;
}
