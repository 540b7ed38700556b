use Rattle.std.proofs.Common.{ℕ, ◌<◌, ◌≤◌, get_or}
use Rattle.graph.proofs.check.first_above.Given as goal

abbrev pub invariant-loop-position : goal.invariant-loop-position
invariant-loop-position l = (k : ℕ) (d : ℕ) → k < l.position → get_or l.counts k d ≤ 4194303
