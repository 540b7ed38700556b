use Rattle.std.proofs.Common.{◌≡◌, ◌<◌, ℕ, [], All, length, map, replicate}
use Rattle.ic3_blocking.proofs.obligation_queue.ObligationQueue.new.Given as goal

abbrev pub invariant-opening : goal.invariant-opening
invariant-opening l = record {
  frames : length l.frames.items ≡ l.counter;
  none : (count : ℕ) → All (λ frame. All (λ i. i < count) frame.items) l.frames.items;
  empty : map (λ frame. frame.items) l.frames.items ≡ replicate l.counter [];
}
