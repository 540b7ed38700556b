use Rattle.std.proofs.Common.{◌≡◌, map, take}
use Rattle.live_safe.specs.Shadow.{negation}
use Rattle.witness_circuits.proofs.property.negations.Given as goal

abbrev pub invariant-loop-lit : goal.invariant-loop-lit
invariant-loop-lit l = l.lits.items ≡ map negation (take l.lit-index l.clause)
