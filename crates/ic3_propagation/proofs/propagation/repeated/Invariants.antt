use Rattle.std.proofs.Common.{◌≢◌, ◌<◌, ℕ, All}
use Rattle.ic3_propagation.proofs.propagation.repeated.Given as goal

abbrev pub invariant-comparing : goal.invariant-comparing
invariant-comparing l = (k : ℕ) → 0 < k → k < l.level → All (λ e. e.level ≢ k) l.frames.entries → ⊥
