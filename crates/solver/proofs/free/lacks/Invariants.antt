use Rattle.std.proofs.Common.{take}
use Rattle.solver.specs.Branches.{Lacks}
use Rattle.solver.proofs.free.lacks.Given as goal

abbrev pub invariant-loop-literal : goal.invariant-loop-literal
invariant-loop-literal l = Lacks l.variable (take l.literal-index l.literals)
