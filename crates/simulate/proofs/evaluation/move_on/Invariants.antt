use Rattle.std.proofs.Common.{ℕ, ◌<◌}
use Rattle.graph.specs.Circuits.{value_of}
use Rattle.simulate.specs.Lanes.{row_of}
use Rattle.simulate.proofs.Taking.{Taken}
use Rattle.simulate.proofs.evaluation.move_on.Given as goal

abbrev pub invariant-loop-i : goal.invariant-loop-i
invariant-loop-i l = (r : ℕ) → r < 256 → Taken (λ x. value_of (row_of r l.values) x.next) l.latches (row_of r l.state) l.i
