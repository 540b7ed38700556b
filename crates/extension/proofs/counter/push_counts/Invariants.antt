use Rattle.std.proofs.Common.{◌≡◌, ◌+◌, ◌-◌, ◌*◌, ◌++◌}
use Rattle.extension.specs.Rounds.{stage_latches}
use Rattle.extension.proofs.counter.push_counts.Given as goal

abbrev pub invariant-loop-i : goal.invariant-loop-i
invariant-loop-i l = l.latches.items ++ stage_latches (l.stages - l.i) (l.count + l.i) (l.variable + 2 * l.i) ≡ l.initial.latches.items ++ stage_latches l.stages l.count l.variable
