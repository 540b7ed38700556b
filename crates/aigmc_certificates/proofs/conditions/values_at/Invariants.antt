use Rattle.std.proofs.Common.{◌≡◌, map, take}
use Rattle.graph.specs.Circuits.{value_of}
use Rattle.aigmc_certificates.proofs.conditions.values_at.Given as goal

abbrev pub invariant-loop-lit : goal.invariant-loop-lit
invariant-loop-lit l = l.found ≡ map (value_of l.values) (take l.lit-index l.lits)
