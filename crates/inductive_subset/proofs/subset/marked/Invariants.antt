use Rattle.inductive_subset.proofs.Kept.{AreMarkedBelow}
use Rattle.inductive_subset.proofs.subset.marked.Given as goal

abbrev pub invariant-collecting : goal.invariant-collecting
invariant-collecting l = AreMarkedBelow l.invariant' l.marks l.place l.clauses
