use Rattle.std.proofs.Common.{◌≡◌, map, take}
use Rattle.graph.specs.Circuits.{value_of}
use Rattle.certify.proofs.counterexample.Counterexample.inputs.Given as goal

abbrev pub invariant-loop-lit : goal.invariant-loop-lit
invariant-loop-lit l = l.inputs ≡ map (value_of l.self.values.items) (take l.lit-index l.lit-items)
