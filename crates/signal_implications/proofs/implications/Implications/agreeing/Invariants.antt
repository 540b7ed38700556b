use Rattle.std.proofs.Common.{◌≡◌, ◌<◌, ℕ, true}
use Rattle.simulate.specs.Lanes.{value_in}
use Rattle.signal_implications.proofs.implications.Implications.agreeing.Given as goal

abbrev pub invariant-loop-place : goal.invariant-loop-place
invariant-loop-place l = (r : ℕ) → r < 256 → value_in l.agreeing r ≡ true → value_in l.fn.running r ≡ true
