use Rattle.inductive_subset.proofs.Excluding.{Marking}
use Rattle.inductive_subset.proofs.asking.mark_core.Given as goal

abbrev pub invariant-marking : goal.invariant-marking
invariant-marking l = Marking l.circuit l.core l.literal-index l.initial.needed l.needed
