use Rattle.std.proofs.Common.{◌≤◌, length, take}
use Rattle.cdcl_log.specs.Units.{AreDeniedAt}
use Rattle.cdcl_log.proofs.closing.denied_indices.Given as goal

abbrev pub invariant-loop-literal : goal.invariant-loop-literal
invariant-loop-literal l = record {
  inside : l.index ≤ length l.units;
  are : AreDeniedAt l.units (take l.literal-index l.clause) l.indices.items;
}
