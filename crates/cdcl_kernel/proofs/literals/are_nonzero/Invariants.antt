use Rattle.std.proofs.Common.{◌≢◌, take, All, pos}
use Rattle.cdcl_kernel.proofs.literals.are_nonzero.Given as goal

abbrev pub invariant-loop-literal : goal.invariant-loop-literal
invariant-loop-literal l = All (λ l. l ≢ pos 0) (take l.literal-index l.clause)
