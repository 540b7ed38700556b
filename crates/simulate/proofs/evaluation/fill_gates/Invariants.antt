use Rattle.std.proofs.Common.{ℕ, ◌<◌}
use Rattle.simulate.specs.Lanes.{row_of}
use Rattle.simulate.proofs.Sorted.{Evaluated}
use Rattle.simulate.proofs.evaluation.fill_gates.Given as goal

abbrev pub invariant-loop-gate : goal.invariant-loop-gate
invariant-loop-gate l = (r : ℕ) → r < 256 → Evaluated l.gates (row_of r l.initial.out) (row_of r l.out) l.gate-index
