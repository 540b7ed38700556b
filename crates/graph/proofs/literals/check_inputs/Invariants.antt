use Rattle.std.proofs.Common.{Ok, take, ◌∷◌, []}
use Rattle.std.specs.List.{flat_map}
use Rattle.graph.specs.declared.circuit.Use.TheVariants.{Defines}
use Rattle.graph.specs.Faults.{GoesOn}
use Rattle.graph.proofs.literals.check_inputs.Given as goal

abbrev pub invariant-loop-lit : goal.invariant-loop-lit
invariant-loop-lit l = GoesOn l.max_var l.before (flat_map (λ a. Defines a ∷ []) (take l.lit-index l.inputs)) (Ok l.count)
