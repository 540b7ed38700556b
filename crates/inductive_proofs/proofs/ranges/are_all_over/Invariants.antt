use Rattle.std.proofs.Common.{take, All}
use Rattle.extension.specs.Inductive.{IsOverAll}
use Rattle.inductive_proofs.proofs.ranges.are_all_over.Given as goal

abbrev pub invariant-loop-k : goal.invariant-loop-k
invariant-loop-k l = All (IsOverAll l.circuit) (take l.k l.invariant')
