use Rattle.std.proofs.Common.{◌<◌, length}
use Rattle.solver.proofs.Branching.{AreGone}
use Rattle.solver.proofs.search.next_branch.Given as goal

abbrev pub invariant-loop-values : goal.invariant-loop-values
invariant-loop-values l = record {
  starts : 0 < length l.values.items;
  went : AreGone l.clauses l.assume l.fn.values.items l.values.items;
}

abbrev pub decreases-loop-values : goal.decreases-loop-values
decreases-loop-values l = length l.values.items
