use Rattle.std.proofs.Common.{◌≢◌, ℕ, ◌<◌, get_or}
use Rattle.graph.specs.declared.definitions.Times.TheVariants.{Never, Again}
use Rattle.graph.proofs.definitions.first_twice.Given as goal

abbrev pub invariant-loop-v : goal.invariant-loop-v
invariant-loop-v l = (u : ℕ) → u < l.v → get_or l.table u Never ≢ Again
