use Rattle.std.proofs.Common.{All, take}
use Rattle.solver.specs.Branches.{Lacks}
use Rattle.solver.proofs.free.is_free.Given as goal

abbrev pub invariant-loop-clause : goal.invariant-loop-clause
invariant-loop-clause l = All (Lacks l.variable) (take l.clause-index l.clauses)
