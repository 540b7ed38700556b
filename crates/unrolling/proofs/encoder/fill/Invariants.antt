use Rattle.std.proofs.Common.{◌≡◌, ◌-◌, ◌≤◌, ℕ, length}
use Rattle.unrolling.specs.Encodings.{function_at}
use Rattle.unrolling.proofs.encoder.fill.Given as goal

abbrev pub invariant-loop-functions : goal.invariant-loop-functions
invariant-loop-functions l = record {
  short : length l.functions.items ≤ l.len;
  same : (x : ℕ) → function_at l.functions.items x ≡ function_at l.initial.functions.items x;
}

abbrev pub decreases-loop-functions : goal.decreases-loop-functions
decreases-loop-functions l = l.len - length l.functions.items
