use Rattle.std.proofs.Common.{[], ◌∷◌, ◌++◌, ◌+◌, ◌-◌, length}
use Rattle.std.specs.BTreeSet.{contains}
use Rattle.std.specs.Ordering.{nat_cmp}
use Rattle.cdcl_log.proofs.Selecting.{Walk}
use Rattle.cdcl_log.proofs.selection.walk_back.Given as goal

abbrev pub invariant-loop-id : goal.invariant-loop-id
invariant-loop-id l = Walk l.first l.lines (l.lines ++ l.fn.last ∷ []) (contains nat_cmp l.wanted) l.kept.items

abbrev pub decreases-loop-id : goal.decreases-loop-id
decreases-loop-id l = length l.lines + 1 - length l.kept.items
