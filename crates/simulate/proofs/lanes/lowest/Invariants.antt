use Rattle.std.proofs.Common.{◌≡◌, ℕ, ◌<◌, false}
use Rattle.simulate.specs.Lanes.{value_in}
use Rattle.simulate.proofs.lanes.lowest.Given as goal

abbrev pub invariant-loop-run : goal.invariant-loop-run
invariant-loop-run l = (r : ℕ) → r < l.run → value_in l.lanes r ≡ false
