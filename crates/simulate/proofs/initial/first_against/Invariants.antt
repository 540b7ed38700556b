use Rattle.std.proofs.Common.{ℕ, ◌<◌}
use Rattle.simulate.specs.Starts.{IsFineAt}
use Rattle.simulate.proofs.initial.first_against.Given as goal

abbrev pub invariant-loop-i : goal.invariant-loop-i
invariant-loop-i l = (k : ℕ) → k < l.i → IsFineAt l.latches l.values k
