use Rattle.std.proofs.Common.{All, take}
use Rattle.cnf.specs.Formulas.{IsInRange}
use Rattle.witness_circuits.proofs.writing.first_outside.Given as goal

abbrev pub invariant-loop-k : goal.invariant-loop-k
invariant-loop-k l = All (All (IsInRange l.max_var)) (take l.k l.invariant')
