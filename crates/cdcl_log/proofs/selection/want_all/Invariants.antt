use Rattle.std.specs.BTreeSet.{contains}
use Rattle.std.specs.Ordering.{nat_cmp}
use Rattle.cdcl_log.proofs.Selecting.{Told}
use Rattle.cdcl_log.proofs.selection.want_all.Given as goal

abbrev pub invariant-loop-hint : goal.invariant-loop-hint
invariant-loop-hint l = Told l.first l.hints (contains nat_cmp l.initial.wanted) (contains nat_cmp l.wanted) l.hint-index
