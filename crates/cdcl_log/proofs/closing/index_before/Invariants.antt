use Rattle.std.proofs.Common.{◌≡◌, ◌<◌, ◌≤◌, ℕ, pos, get_or}
use Rattle.cdcl_log.proofs.closing.index_before.Given as goal

abbrev pub invariant-loop-index : goal.invariant-loop-index
invariant-loop-index l = (k : ℕ) → l.index ≤ k → k < l.end → get_or l.units k (pos 0) ≡ l.literal → ⊥
