-- Whether a clause holds after each step.
use Rattle.std.specs.Prelude.{◌≡◌, ℕ, List, map, slice_index_or, Contains}
use Rattle.base.specs.Budget.{Steps}
use Rattle.graph.specs.declared.circuit.Lit.{Lit}
use Rattle.graph.specs.declared.circuit.Latch.{Latch}
use Rattle.graph.specs.declared.parts.Parts.{Parts}
use Rattle.graph.specs.Circuits.{Valuation, state_of, next_state}
use Rattle.cnf.specs.Clauses.{along}
use Rattle.states.specs.declared.state_lit.StateLit.{StateLit}
use Rattle.ic3_step.specs.declared.step.Consecution.{Consecution}
use Rattle.ic3_step.specs.declared.step.Consecution.TheVariants.{Held, Broken, Spent}
use Rattle.states.specs.States.{Holds, Denies, IsPartOf, IsTime}
use Rattle.ic3_step.specs.States.{Guarded, HoldsGuarded, IsAt}

-- the next literal of a latch, by its position
abbrev pub next_literal : List Latch → ℕ → Lit
next_literal latches i = slice_index_or (map (λ (l : Latch). l.next) latches) i (record { 0 = 0 })

-- the literal that is true where the latch's next value is another
abbrev pub denial : List Latch → StateLit → Lit
denial latches a = along a.value (next_literal latches a.latch)

-- the literals that are true where the clause doesn't hold after the step
abbrev pub denials_of : List Latch → List StateLit → List Lit
denials_of latches c = map (denial latches) c

-- what is known of steps: a part of the clause holds after each from a time in whose state the clauses of these guards hold,
-- the clause doesn't hold after one from any state, or the budget is exhausted
abbrev pub IsConsecution : Parts → List Guarded → List ℕ → List StateLit → Steps → Consecution → Type 0
IsConsecution m gs guards c after (Held part) =
    IsPartOf part c × ((w : Valuation) → IsTime m w → HoldsGuarded gs guards (state_of m w) → Holds (next_state m w) part)
IsConsecution m gs guards c after (Broken t) = (w : Valuation) × IsAt m (denials_of m.latches c) w t × Denies (next_state m w) c
IsConsecution m gs guards c after Spent = after.left ≡ 0

-- the part has each literal whose denial is in the core
pub record HasNeeded (latches : List Latch) (clause : List StateLit) (core : List Lit) (part : List StateLit) : Type 0 where
  pub each : (a : StateLit) → Contains clause a → Contains core (denial latches a) → Contains part a
