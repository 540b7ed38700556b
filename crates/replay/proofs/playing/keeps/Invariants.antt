use Rattle.std.proofs.Common.{◌≡◌, ℕ, ◌<◌, true, Some, get_or}
use Rattle.graph.specs.declared.circuit.Lit.{Lit}
use Rattle.graph.specs.Circuits.{Valuation, value_of}
use Rattle.replay.proofs.playing.keeps.Given as goal

abbrev pub invariant-loop-lit : goal.invariant-loop-lit
invariant-loop-lit l = (w : Valuation) → l.replay.now ≡ Some w → (k : ℕ) (d : Lit) → k < l.lit-index → value_of w (get_or l.constraints k d) ≡ true
