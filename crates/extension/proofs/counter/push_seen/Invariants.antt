use Rattle.std.proofs.Common.{◌≡◌, ◌+◌, ◌++◌, drop}
use Rattle.extension.specs.Rounds.{seen_latches}
use Rattle.extension.proofs.counter.push_seen.Given as goal

abbrev pub invariant-loop-i : goal.invariant-loop-i
invariant-loop-i l = l.latches.items ++ seen_latches (drop l.i l.wanted) (l.seen + l.i) (l.variable + l.i) ≡ l.initial.latches.items ++ seen_latches l.wanted l.seen l.variable
