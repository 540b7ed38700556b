use Rattle.std.proofs.Common.{◌≡◌, ◌+◌, ◌-◌, ◌<◌, ◌^◌, ℕ, All, length, unsigned_abs}
use Rattle.unrolling.specs.Merged.{equal_at}
use Rattle.unrolling.proofs.representatives.list.Given as goal

abbrev pub invariant-filling : goal.invariant-filling
invariant-filling l = record {
  small : All (λ k. unsigned_abs k < 2 ^ 31) l.equals.items;
  same : (x : ℕ) → equal_at l.equals.items x ≡ equal_at l.initial.equals.items x;
}

abbrev pub decreases-filling : goal.decreases-filling
decreases-filling l = l.variable + 1 - length l.equals.items
