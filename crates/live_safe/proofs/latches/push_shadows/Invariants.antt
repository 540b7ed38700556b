use Rattle.std.proofs.Common.{◌≡◌, ◌+◌, ◌*◌, ◌++◌, drop}
use Rattle.live_safe.specs.Shadow.{shadow_latches}
use Rattle.live_safe.proofs.latches.push_shadows.Given as goal

abbrev pub invariant-loop-i : goal.invariant-loop-i
invariant-loop-i l = l.all.items ++ shadow_latches (drop l.i l.latches) (l.shadow + l.i) (l.variable + 6 * l.i) ≡ l.initial.all.items ++ shadow_latches l.latches l.shadow l.variable
