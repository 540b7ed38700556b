use Rattle.std.proofs.Common.{All}
use Rattle.lrat.specs.Literals.{IsLiteral}
use Rattle.circuit_tests.proofs.worked_proofs.formula.Given as goal

abbrev pub invariant-loop-line : goal.invariant-loop-line
invariant-loop-line l = All (λ clause. All (IsLiteral l.vars) clause) l.clauses
