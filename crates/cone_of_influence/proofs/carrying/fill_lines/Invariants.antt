use Rattle.std.proofs.Common.{◌≡◌, map, take}
use Rattle.cone_of_influence.specs.Reduced.{filled}
use Rattle.cone_of_influence.proofs.carrying.fill_lines.Given as goal

abbrev pub invariant-loop-line : goal.invariant-loop-line
invariant-loop-line l = l.all ≡ map (filled l.fillers) (take l.line-index l.lines)
