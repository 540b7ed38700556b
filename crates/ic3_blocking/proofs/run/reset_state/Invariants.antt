use Rattle.std.proofs.Common.{◌≡◌, ◌≢◌, ◌<◌, ℕ, get_or, length, true, false}
use Rattle.graph.specs.declared.circuit.Latch.{Latch}
use Rattle.states.specs.States.{latch_at}
use Rattle.ic3_blocking.proofs.run.reset_state.Given as goal

abbrev pub invariant-resetting : goal.invariant-resetting
invariant-resetting l = record {
  long : length l.values ≡ l.i;
  free : (k : ℕ) (d : Latch) → k < l.i → (get_or l.latches k d).reset.0 ≢ 0 → (get_or l.latches k d).reset.0 ≢ 1 → latch_at l.values k ≡ latch_at l.state k;
  has : (k : ℕ) (d : Latch) → k < l.i → ((get_or l.latches k d).reset.0 ≡ 0 → latch_at l.values k ≡ false) × ((get_or l.latches k d).reset.0 ≡ 1 → latch_at l.values k ≡ true);
}
