use Rattle.cdcl_kernel.proofs.Closing.{IsClosing}
use Rattle.cdcl_kernel.proofs.clause_ref.close_up.Given as goal

abbrev pub invariant-loop-index : goal.invariant-loop-index
invariant-loop-index l = IsClosing l.initial.literals l.literals l.initial.clause_refs l.clause_refs l.index l.end
