use Rattle.std.proofs.Common.{ℕ, ◌<◌}
use Rattle.simulate.specs.Wides.{AreFineAt}
use Rattle.simulate.proofs.initial.first_against_any.Given as goal

abbrev pub invariant-loop-i : goal.invariant-loop-i
invariant-loop-i l = (k : ℕ) → k < l.i → AreFineAt l.latches l.values k
