use Rattle.std.proofs.Common.{take, All}
use Rattle.lrat.specs.Literals.{IsLiteral}
use Rattle.circuit_tests.proofs.literals.are_literals.Given as goal

abbrev pub invariant-loop-literal : goal.invariant-loop-literal
invariant-loop-literal l = All (IsLiteral l.vars) (take l.literal-index l.literals)
