use Rattle.std.proofs.Common.{Ok, take, map}
use Rattle.std.specs.List.{flat_map}
use Rattle.graph.specs.declared.circuit.Use.TheVariants.{Mentions}
use Rattle.graph.specs.Faults.{GoesOn}
use Rattle.graph.proofs.literals.check_justice.Given as goal

abbrev pub invariant-loop-lits : goal.invariant-loop-lits
invariant-loop-lits l = GoesOn l.max_var l.before (flat_map (λ lits. map Mentions lits) (take l.lits-index l.justice)) (Ok l.count)
