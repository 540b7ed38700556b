use Rattle.std.proofs.Common.{◌≡◌, ◌+◌, ◌*◌, ◌++◌, drop}
use Rattle.live_safe.specs.Shadow.{watch_gates}
use Rattle.live_safe.proofs.gates.push_watches.Given as goal

abbrev pub invariant-loop-k : goal.invariant-loop-k
invariant-loop-k l = l.gates.items ++ watch_gates l.idle (drop l.k l.wanted) (l.seen + l.k) (l.v + 2 * l.k) ≡ l.initial.gates.items ++ watch_gates l.idle l.wanted l.seen l.v
