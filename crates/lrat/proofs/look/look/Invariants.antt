use Rattle.std.proofs.Common.{take}
use Rattle.lrat.specs.Faults.{SoFar}
use Rattle.lrat.proofs.look.look.Given as goal

abbrev pub invariant-loop-literal : goal.invariant-loop-literal
invariant-loop-literal l = SoFar l.trail.literals (take l.literal-index l.clause) l.left
