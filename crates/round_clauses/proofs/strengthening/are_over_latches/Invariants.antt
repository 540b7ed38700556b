use Rattle.std.proofs.Common.{All, take}
use Rattle.cnf.specs.Formulas.{IsOverLatches}
use Rattle.round_clauses.proofs.strengthening.are_over_latches.Given as goal

abbrev pub invariant-loop-clause : goal.invariant-loop-clause
invariant-loop-clause l = All (IsOverLatches l.circuit) (take l.clause-index l.clauses)
