use Rattle.std.proofs.Common.{◌≡◌, ◌<◌, ℕ, length, get_or}
use Rattle.cnf.specs.Clauses.{next_of}
use Rattle.unrolling.specs.Cones.{latch_at}
use Rattle.unrolling.specs.Unrollings.{literal_at, literal_of}
use Rattle.unrolling.proofs.unrolling.next_state.Given as goal

abbrev pub invariant-loop-index : goal.invariant-loop-index
invariant-loop-index l = record {
  lengths : length l.state ≡ length l.initial.state;
  so_far : (k : ℕ) → k < l.index → literal_at l.state k ≡ literal_of l.table (next_of l.circuit.latches (latch_at l.circuit.latches (get_or l.cone.latches.items k 0)).lit);
}
