use Rattle.std.proofs.Common.{◌≡◌, Some, map, take}
use Rattle.witness.proofs.clearing.whole_row.Given as goal

abbrev pub invariant-loop-value : goal.invariant-loop-value
invariant-loop-value l = l.row ≡ map Some (take l.value-index l.values)
