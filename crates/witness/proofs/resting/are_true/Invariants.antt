use Rattle.std.proofs.Common.{◌≡◌, ℕ, ◌<◌, true, get_or}
use Rattle.graph.specs.declared.circuit.Lit.{Lit}
use Rattle.graph.specs.Circuits.{value_of}
use Rattle.witness.proofs.resting.are_true.Given as goal

abbrev pub invariant-loop-lit : goal.invariant-loop-lit
invariant-loop-lit l = (k : ℕ) (d : Lit) → k < l.lit-index → value_of l.values (get_or l.lits k d) ≡ true
