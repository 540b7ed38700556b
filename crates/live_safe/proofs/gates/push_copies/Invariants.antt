use Rattle.std.proofs.Common.{◌≡◌, ◌+◌, ◌*◌, ◌++◌, drop}
use Rattle.live_safe.specs.Shadow.{copy_gates}
use Rattle.live_safe.proofs.gates.push_copies.Given as goal

abbrev pub invariant-loop-i : goal.invariant-loop-i
invariant-loop-i l = l.gates.items ++ copy_gates l.start (drop l.i l.latches) (l.shadow + l.i) (l.v + 6 * l.i) ≡ l.initial.gates.items ++ copy_gates l.start l.latches l.shadow l.v
