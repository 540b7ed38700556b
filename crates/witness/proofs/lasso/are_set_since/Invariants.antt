use Rattle.std.proofs.Common.{ℕ, ◌<◌, get_or}
use Rattle.witness.proofs.lasso.are_set_since.Given as goal

abbrev pub invariant-loop-passed : goal.invariant-loop-passed
invariant-loop-passed l = (k : ℕ) → k < l.passed-index → l.first < get_or l.last k 0
