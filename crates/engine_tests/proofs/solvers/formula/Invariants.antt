use Rattle.std.proofs.Common.{◌-◌, length, All}
use Rattle.lrat.specs.Literals.{IsLiteral}
use Rattle.engine_tests.proofs.solvers.formula.Given as goal

abbrev pub invariant-loop-start : goal.invariant-loop-start
invariant-loop-start l = All (λ clause. All (IsLiteral l.vars) clause) l.clauses

abbrev pub decreases-loop-start : goal.decreases-loop-start
decreases-loop-start l = length l.list - l.start
