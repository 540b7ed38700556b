use Rattle.std.proofs.Common.{All}
use Rattle.ic3_frames.specs.Clauses.{IsResetEntry}
use Rattle.ic3_frames.proofs.Begun.{HasResetsBefore}
use Rattle.ic3_frames.proofs.resets.reset_entries.Given as goal

abbrev pub invariant-resetting : goal.invariant-resetting
invariant-resetting l = record { only : All (IsResetEntry l.latches) l.entries.items; each : HasResetsBefore l.latches l.i l.entries.items }
