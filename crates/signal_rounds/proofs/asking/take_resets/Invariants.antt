use Rattle.std.proofs.Common.{◌≡◌}
use Rattle.signal_rounds.proofs.asking.take_resets.Given as goal

abbrev pub invariant-taking : goal.invariant-taking
invariant-taking l = l.parts ≡ l.initial.parts
