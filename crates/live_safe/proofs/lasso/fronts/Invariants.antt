use Rattle.std.proofs.Common.{◌≡◌, map, take}
use Rattle.live_safe.proofs.lasso.fronts.Given as goal

abbrev pub invariant-loop-line : goal.invariant-loop-line
invariant-loop-line l = l.rows ≡ map (take l.width) (take l.line-index l.lines)
