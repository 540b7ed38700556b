use Rattle.std.proofs.Common.{take, All}
use Rattle.cdcl_kernel.specs.Verdicts.{IsOpposed}
use Rattle.cdcl_kernel.proofs.verdict.opposed_pair.Given as goal

abbrev pub invariant-loop-literal : goal.invariant-loop-literal
invariant-loop-literal l = All (λ x. IsOpposed l.assume x → ⊥) (take l.literal-index l.assume)
