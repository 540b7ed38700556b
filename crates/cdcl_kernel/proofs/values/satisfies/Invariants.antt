use Rattle.std.proofs.Common.{◌≡◌, true, take, All}
use Rattle.solver.specs.Values.{true_by}
use Rattle.cdcl_kernel.proofs.values.satisfies.Given as goal

abbrev pub invariant-loop-literal : goal.invariant-loop-literal
invariant-loop-literal l = All (λ x. true_by l.values x ≡ true → ⊥) (take l.literal-index l.clause)
