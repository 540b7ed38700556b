use Rattle.std.proofs.Common.{take, All}
use Rattle.certificate3.specs.Texts.{AreLiterals}
use Rattle.certificate3.proofs.limits.are_clauses.Given as goal

abbrev pub invariant-loop-k : goal.invariant-loop-k
invariant-loop-k l = All AreLiterals (take l.k l.clauses)
