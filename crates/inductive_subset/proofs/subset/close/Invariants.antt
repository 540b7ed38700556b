use Rattle.std.proofs.Common.{ℕ, ◌<◌, ◌≤◌, length, get_or}
use Rattle.base.specs.Budget.{Spends}
use Rattle.inductive_subset.specs.Guards.{IsLoaded, IsMarked, IsFor}
use Rattle.inductive_subset.specs.Subsets.{IsHeld}
use Rattle.inductive_subset.proofs.subset.close.Given as goal

abbrev pub invariant-closing : goal.invariant-closing
invariant-closing g l = record {
  spends : Spends l.initial.budget l.budget;
  loaded : IsLoaded l.circuit l.invariant' (g.S.Sat.vars l.solver) (g.S.Sat.clauses l.solver);
  well : IsFor (length l.invariant') l.needed;
  kept : (i : ℕ) → IsMarked l.initial.needed.marks.items i → IsMarked l.needed.marks.items i;
  reached : l.asked ≤ length l.needed.order.items;
  held : (k : ℕ) → k < l.asked → IsHeld l.circuit l.invariant' l.needed.marks.items (get_or l.needed.order.items k 0);
}

abbrev pub decreases-closing : goal.decreases-closing
decreases-closing g l = l.budget.left
