use Rattle.std.proofs.Common.{◌≡◌}
use Rattle.lrat_trim.proofs.hinting.Known.strict.Given as goal

abbrev pub invariant-loop-hint : goal.invariant-loop-hint
invariant-loop-hint l = l.trail.vars ≡ l.fn.trail.vars
