use Rattle.std.proofs.Common.{◌≡◌, ◌+◌, ◌*◌, ◌++◌, drop}
use Rattle.live_safe.specs.Shadow.{seen_latches}
use Rattle.live_safe.proofs.latches.push_seens.Given as goal

abbrev pub invariant-loop-k : goal.invariant-loop-k
invariant-loop-k l = l.all.items ++ seen_latches (drop l.k l.wanted) (l.seen + l.k) (l.variable + 2 * l.k) ≡ l.initial.all.items ++ seen_latches l.wanted l.seen l.variable
