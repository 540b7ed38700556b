use Rattle.std.proofs.Common.{◌≡◌}
use Rattle.signal_rounds.proofs.search.Search.take_classes.Given as goal

abbrev pub invariant-taking : goal.invariant-taking
invariant-taking l = l.parts ≡ l.initial.parts
