use Rattle.std.proofs.Common.{ℕ}
use Rattle.ic3_blocking.specs.Candidates.{HasPositions, AreInside}
use Rattle.ic3_blocking.proofs.candidates.state_lits.Given as goal

abbrev pub invariant-translating : goal.invariant-translating
invariant-translating l = (n : ℕ) → HasPositions n l.positions → AreInside n l.found.items
