use Rattle.std.proofs.Common.{◌≤◌, ◌-◌, length}
use Rattle.engine_tests.proofs.solvers.clause_end.Given as goal

abbrev pub invariant-loop-end : goal.invariant-loop-end
invariant-loop-end l = (l.start ≤ l.end) × (l.end ≤ length l.list)

abbrev pub decreases-loop-end : goal.decreases-loop-end
decreases-loop-end l = length l.list - l.end
