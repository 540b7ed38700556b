use Rattle.std.proofs.Common.{◌≡◌}
use Rattle.lrat_trim.proofs.inlining.closed.Given as goal

abbrev pub invariant-round : goal.invariant-round
invariant-round l = l.trail.vars ≡ l.fn.trail.vars
