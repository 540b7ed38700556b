use Rattle.std.proofs.Common.{◌≡◌, ◌≤◌, ◌+◌, true, false, length, All, Contains, get_or}
use Rattle.base.specs.Budget.{Spends}
use Rattle.solver.proofs.Tried.{IsTried}
use Rattle.solver.proofs.search.search.Given as goal

abbrev pub invariant-searching : goal.invariant-searching
invariant-searching l = record {
  spends : Spends l.initial.budget l.budget;
  among : All (Contains l.assume) l.core.items;
  few : length l.values.items ≤ l.vars + 1;
  none : get_or l.values.items 0 true ≡ false;
  tried : IsTried l.clauses l.core.items l.values.items;
}

abbrev pub decreases-searching : goal.decreases-searching
decreases-searching l = l.budget.left
