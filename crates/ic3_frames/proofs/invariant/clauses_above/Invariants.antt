use Rattle.std.proofs.Common.{◌≡◌, take}
use Rattle.ic3_frames.specs.Clauses.{invariant_above}
use Rattle.ic3_frames.proofs.invariant.clauses_above.Given as goal

abbrev pub invariant-collecting : goal.invariant-collecting
invariant-collecting l = l.clauses ≡ invariant_above l.latches (take l.entry-index l.entries) l.level
