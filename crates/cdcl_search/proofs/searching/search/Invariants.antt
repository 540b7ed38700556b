use Rattle.base.specs.Budget.{Spends}
use Rattle.cdcl_log.specs.Keeping.{Keeps}
use Rattle.cdcl_search.proofs.searching.search.Given as goal

abbrev pub invariant-searching : goal.invariant-searching
invariant-searching l = record {
  keeps : Keeps l.fn.kernel l.kernel;
  spends : Spends l.fn.budget l.budget;
}

abbrev pub decreases-searching : goal.decreases-searching
decreases-searching l = l.budget.left
