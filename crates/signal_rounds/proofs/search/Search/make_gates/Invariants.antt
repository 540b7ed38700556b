use Rattle.std.proofs.Common.{◌≡◌}
use Rattle.signal_rounds.proofs.search.Search.make_gates.Given as goal

abbrev pub invariant-making : goal.invariant-making
invariant-making l = l.parts ≡ l.initial.parts
