-- As many as the loop has come to are added.
use Rattle.std.proofs.Common.{◌≡◌, ◌++◌, map}
use Rattle.std.specs.List.{range_with_len}
use Rattle.properties.specs.Order.{property_at}
use Rattle.properties.proofs.listing.push_kind.Given as goal

abbrev pub invariant-loop-position : goal.invariant-loop-position
invariant-loop-position l = l.to.items ≡ l.initial.to.items ++ map (property_at l.initial.kind) (range_with_len 0 l.position)
