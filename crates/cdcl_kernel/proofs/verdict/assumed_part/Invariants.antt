use Rattle.std.proofs.Common.{◌≡◌, take, map, neg_ℤ, All, Contains}
use Rattle.cdcl_kernel.proofs.verdict.assumed_part.Given as goal

abbrev pub invariant-loop-literal : goal.invariant-loop-literal
invariant-loop-literal l = record {
  denials : l.part.items ≡ map neg_ℤ (take l.literal-index l.clause);
  assumed : All (Contains l.assume) l.part.items;
}
