use Rattle.std.proofs.Common.{◌≡◌, ◌≤◌, length}
use Rattle.cdcl_search.proofs.units.remove_duplicates.Given as goal

abbrev pub invariant-loop-at : goal.invariant-loop-at
invariant-loop-at l = (l.kept ≤ l.at) × (length l.ids ≡ length l.initial.ids)
