use Rattle.std.proofs.Common.{◌≡◌, take}
use Rattle.cdcl_kernel.specs.Valued.{valued}
use Rattle.cdcl_kernel.proofs.values.values_of.Given as goal

abbrev pub invariant-loop-literal : goal.invariant-loop-literal
invariant-loop-literal l = l.values.items ≡ valued l.vars (take l.literal-index l.literals)
