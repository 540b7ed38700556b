use Rattle.std.proofs.Common.{◌≡◌, map, take}
use Rattle.graph.specs.declared.circuit.Lit.{Lit}
use Rattle.ic3_step.proofs.lookup.numbers.Given as goal

abbrev pub invariant-loop-lit : goal.invariant-loop-lit
invariant-loop-lit l = l.numbers.items ≡ map (λ (a : Lit). a.0) (take l.lit-index l.lits)
