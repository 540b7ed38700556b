use Rattle.std.proofs.Common.{◌≤◌, length}
use Rattle.base.specs.Budget.{Spends}
use Rattle.cdcl_search.proofs.propagation.visit_long_watches.Given as goal

abbrev pub invariant-loop-at : goal.invariant-loop-at
invariant-loop-at l = record {
  few : l.kept ≤ l.at;
  long : l.at-end ≤ length l.list.items;
  spends : Spends l.initial.budget l.budget;
}
