use Rattle.std.proofs.Common.{arith}
use Rattle.solver.proofs.Branching.{next_found, last_left}
use Rattle.solver.proofs.search.next_branch.Goals as goal

pub returns-then-not-is_free-clause-next : goal.returns-then-not-is_free-clause-next
returns-then-not-is_free-clause-next c = λ _. next_found _ _ _ _ _ c.loop-values.invariant.went (omega arith) (omega arith) (rw c.if-not-index.true at c.index.ensures)

pub returns-clause-last : goal.returns-clause-last
returns-clause-last c = λ _. last_left _ _ _ _ c.loop-values.invariant.went c.loop-values.invariant.starts (omega arith)
