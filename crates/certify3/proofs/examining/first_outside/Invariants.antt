use Rattle.std.proofs.Common.{take, All}
use Rattle.extension.specs.Inductive.{IsOverAll}
use Rattle.certify3.proofs.examining.first_outside.Given as goal

abbrev pub invariant-loop-k : goal.invariant-loop-k
invariant-loop-k l = All (IsOverAll l.circuit) (take l.k l.invariant')
