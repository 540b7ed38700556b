use Rattle.std.proofs.Common.{ℕ, ◌<◌}
use Rattle.graph.proofs.Tabled.{IsMissing}
use Rattle.graph.proofs.definitions.first_undefined.Given as goal

abbrev pub invariant-loop-v : goal.invariant-loop-v
invariant-loop-v l = (u : ℕ) → u < l.v → IsMissing l.table l.used u → ⊥
