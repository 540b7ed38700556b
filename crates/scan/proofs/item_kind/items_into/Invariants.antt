use Rattle.std.proofs.Common.{◌≡◌, ◌≤◌, ◌<◌, ℕ, length}
use Rattle.scan.specs.Lists.{until_at, items_at}
use Rattle.scan.proofs.Loops.{with_front}
use Rattle.scan.proofs.item_kind.items_into.Given as goal

abbrev pub invariant-reading : goal.invariant-reading
invariant-reading g l = record {
  within : length l.rest ≤ length l.text;
  reads : (steps : ℕ) × (length l.rest < steps) × (with_front l.items.items (until_at (g.L.ItemKind.at l.context) steps l.rest) ≡ items_at (g.L.ItemKind.at l.context) l.text);
}

abbrev pub decreases-reading : goal.decreases-reading
decreases-reading g l = length l.rest
