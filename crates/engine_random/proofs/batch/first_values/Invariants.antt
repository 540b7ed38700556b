use Rattle.std.proofs.Common.{◌≡◌, length}
use Rattle.engine_random.proofs.StartLaws.{StartsUpTo}
use Rattle.engine_random.proofs.batch.first_values.Given as goal

abbrev pub invariant-loop-i : goal.invariant-loop-i
invariant-loop-i l = (length l.first ≡ length l.initial.first) × StartsUpTo l.latches l.first l.i
