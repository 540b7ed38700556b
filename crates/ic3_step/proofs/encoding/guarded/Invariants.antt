use Rattle.std.proofs.Common.{◌≡◌, ◌∷◌, map, take, neg_ℤ}
use Rattle.ic3_step.specs.Contents.{guard_literal, state_literal}
use Rattle.ic3_step.proofs.encoding.guarded.Given as goal

abbrev pub invariant-loop-lit : goal.invariant-loop-lit
invariant-loop-lit l = l.literals.items ≡ neg_ℤ (guard_literal l.circuit l.guard) ∷ map (state_literal l.circuit) (take l.lit-index l.clause)
