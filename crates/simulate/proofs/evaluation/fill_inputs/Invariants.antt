use Rattle.std.proofs.Common.{ℕ, map}
use Rattle.graph.specs.Circuits.{variable}
use Rattle.graph.proofs.Filled.{Written}
use Rattle.simulate.specs.Lanes.{row_of}
use Rattle.simulate.proofs.evaluation.fill_inputs.Given as goal

abbrev pub invariant-loop-i : goal.invariant-loop-i
invariant-loop-i l = (r : ℕ) → Written (map variable l.lits) (row_of r l.values) (row_of r l.initial.out) (row_of r l.out) l.i
