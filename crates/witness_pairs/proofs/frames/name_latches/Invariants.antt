use Rattle.std.proofs.Common.{◌≡◌}
use Rattle.witness_pairs.proofs.frames.name_latches.Given as goal

abbrev pub invariant-loop-position : goal.invariant-loop-position
invariant-loop-position l = l.draft.gates ≡ l.initial.draft.gates
