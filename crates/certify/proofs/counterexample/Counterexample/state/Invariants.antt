use Rattle.std.proofs.Common.{◌≡◌, map, take}
use Rattle.graph.specs.Circuits.{value_of}
use Rattle.certify.proofs.counterexample.Counterexample.state.Given as goal

abbrev pub invariant-loop-latch : goal.invariant-loop-latch
invariant-loop-latch l = l.state ≡ map (λ x. value_of l.self.values.items x.lit) (take l.latch-index l.latch-items)
