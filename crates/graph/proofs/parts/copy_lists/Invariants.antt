use Rattle.std.proofs.Common.{◌≡◌, take}
use Rattle.graph.proofs.parts.copy_lists.Given as goal

abbrev pub invariant-loop-list : goal.invariant-loop-list
invariant-loop-list l = l.copies ≡ take l.list-index l.lists
