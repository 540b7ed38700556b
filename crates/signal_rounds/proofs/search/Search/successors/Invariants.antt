use Rattle.std.proofs.Common.{◌≡◌}
use Rattle.signal_rounds.proofs.search.Search.successors.Given as goal

abbrev pub invariant-loop-place : goal.invariant-loop-place
invariant-loop-place l = l.self.runs ≡ l.initial.self.runs
