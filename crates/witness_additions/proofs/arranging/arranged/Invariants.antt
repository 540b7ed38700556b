use Rattle.std.proofs.Common.{◌≡◌, ◌&&◌, take}
use Rattle.graph.specs.Circuits.{Valuation}
use Rattle.witness_circuits.specs.Witnesses.{are_true}
use Rattle.witness_additions.proofs.arranging.arranged.Given as goal

abbrev pub invariant-loop-k : goal.invariant-loop-k
invariant-loop-k l = (w : Valuation) → (are_true w l.early && are_true w l.late) ≡ are_true w (take l.k l.clauses)
