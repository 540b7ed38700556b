use Rattle.std.proofs.Common.{ℕ, ◌<◌, ◌≢◌}
use Rattle.graph.specs.declared.ordering.Mark.TheVariants.{Stuck}
use Rattle.graph.specs.Search.{mark_of}
use Rattle.graph.proofs.ordering.first_stuck.Given as goal

abbrev pub invariant-loop-v : goal.invariant-loop-v
invariant-loop-v l = (u : ℕ) → u < l.v → mark_of l.marks u ≢ Stuck
