use Rattle.std.proofs.Common.{◌≡◌}
use Rattle.lrat_trim.proofs.occurrences.Occurrences.follow.Given as goal

abbrev pub invariant-loop-place : goal.invariant-loop-place
invariant-loop-place l = l.trail.vars ≡ l.fn.trail.vars
