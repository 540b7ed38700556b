use Rattle.std.proofs.Common.{◌≡◌, map, take, pos}
use Rattle.cdcl_log.specs.Logged.{shifted}
use Rattle.cdcl_log.proofs.lines.shifted_all.Given as goal

abbrev pub invariant-loop-hint : goal.invariant-loop-hint
invariant-loop-hint l = l.ids.items ≡ map (λ h. pos (shifted l.numbering h)) (take l.hint-index l.hints)
