use Rattle.std.proofs.Common.{◌≡◌, ◌+◌, length}
use Rattle.ic3_blocking.specs.Candidates.{HasPositions}
use Rattle.ic3_blocking.proofs.candidates.positions_of.Given as goal

abbrev pub invariant-placing : goal.invariant-placing
invariant-placing l = (length l.positions.items ≡ l.circuit.max_var + 1) × HasPositions (length l.circuit.latches) l.positions.items
