use Rattle.std.proofs.Common.{◌≡◌, ◌++◌, take}
use Rattle.inductive_proofs.proofs.formulas.append.Given as goal

abbrev pub invariant-loop-clause : goal.invariant-loop-clause
invariant-loop-clause l = l.to ≡ l.fn.to ++ take l.clause-index l.more
