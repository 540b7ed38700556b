use Rattle.std.proofs.Common.{◌≡◌, Some, map, take}
use Rattle.witness.proofs.clearing.whole_rows.Given as goal

abbrev pub invariant-loop-line : goal.invariant-loop-line
invariant-loop-line l = l.rows ≡ map (map Some) (take l.line-index l.lines)
