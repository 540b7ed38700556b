use Rattle.std.proofs.Common.{All, take}
use Rattle.solver.specs.Branches.{IsFalse}
use Rattle.solver.proofs.look.is_denied.Given as goal

abbrev pub invariant-loop-literal : goal.invariant-loop-literal
invariant-loop-literal l = All (IsFalse l.values) (take l.literal-index l.clause)
