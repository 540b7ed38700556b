use Rattle.std.proofs.Common.{take, All}
use Rattle.extension.specs.Inductive.{IsOverAll}
use Rattle.checker3.proofs.clauses.first_outside.Given as goal

abbrev pub invariant-loop-k : goal.invariant-loop-k
invariant-loop-k l = All (IsOverAll l.circuit) (take l.k l.invariant')
