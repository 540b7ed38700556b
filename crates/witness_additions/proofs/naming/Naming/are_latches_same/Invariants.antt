use Rattle.std.proofs.Common.{ℕ, ◌<◌, None, get_or}
use Rattle.graph.specs.declared.circuit.Latch.{Latch}
use Rattle.witness_additions.specs.Agreements.{IsSameLatch}
use Rattle.witness_additions.proofs.naming.Naming.are_latches_same.Given as goal

abbrev pub invariant-loop-position : goal.invariant-loop-position
invariant-loop-position l = (k : ℕ) (d : Latch) → k < l.position → IsSameLatch l.self.names.items l.self.same.items l.latches (get_or l.own k d) (get_or l.shared k None)
