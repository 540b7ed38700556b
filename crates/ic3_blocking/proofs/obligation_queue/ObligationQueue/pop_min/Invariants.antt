use Rattle.std.proofs.Common.{◌≡◌, ℕ, length}
use Rattle.ic3_blocking.specs.Queue.{AreQueued, queued_in, IsLowest}
use Rattle.ic3_blocking.proofs.obligation_queue.ObligationQueue.pop_min.Given as goal

abbrev pub invariant-looking : goal.invariant-looking
invariant-looking l = record {
  frames : length l.self.frames.items ≡ length l.initial.self.frames.items;
  queued : (count : ℕ) → AreQueued count l.initial.self → AreQueued count l.self;
  same : queued_in l.self ≡ queued_in l.initial.self;
  lowest : IsLowest (queued_in l.initial.self) l.level;
}
