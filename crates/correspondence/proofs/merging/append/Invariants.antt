use Rattle.std.proofs.Common.{◌≡◌, ◌++◌, take}
use Rattle.correspondence.proofs.merging.append.Given as goal

abbrev pub invariant-loop-clause : goal.invariant-loop-clause
invariant-loop-clause l = l.to ≡ l.initial.to ++ take l.clause-index l.clauses
