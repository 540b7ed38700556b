use Rattle.std.proofs.Common.{take}
use Rattle.solver.specs.Values.{AreTrueBy}
use Rattle.solver.proofs.values.are_true.Given as goal

abbrev pub invariant-loop-literal : goal.invariant-loop-literal
invariant-loop-literal l = AreTrueBy l.values (take l.literal-index l.literals)
