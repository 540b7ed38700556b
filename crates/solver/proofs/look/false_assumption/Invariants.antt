use Rattle.std.proofs.Common.{All, take}
use Rattle.solver.specs.Branches.{IsFalse}
use Rattle.solver.proofs.look.false_assumption.Given as goal

abbrev pub invariant-loop-literal : goal.invariant-loop-literal
invariant-loop-literal l = All (λ x. IsFalse l.values x → ⊥) (take l.literal-index l.assume)
