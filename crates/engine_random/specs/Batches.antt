-- What is kept of 256 runs that are played at once, and what playing does to it.
use Rattle.std.specs.Prelude.{◌≡◌, ◌↔◌, ℕ, ◌<◌, true, List, [], ◌∷◌, ◌++◌, length, All, Some}
use Rattle.rand_pcg.specs.Lcg.{Lcg}
use Rattle.graph.specs.declared.circuit.Lit.{Lit}
use Rattle.graph.specs.declared.parts.Parts.{Parts}
use Rattle.graph.specs.Circuits.{Valuation, value_of}
use Rattle.simulate.specs.Lanes.{value_in, row_of}
use Rattle.simulate.specs.Wides.{WideReplayed, AllStep}
use Rattle.engine_random.specs.Words.{draws}

-- a circuit, the latches' first values in their order, the inputs' values at each time, the runs as they are replayed,
-- and those that are still in
pub record Played : Type 0 where
  pub circuit : Parts
  pub first : List (List ℕ)
  pub inputs : List (List (List ℕ))
  pub wide : WideReplayed
  pub running : List ℕ

-- every one of the literals is true
abbrev pub AreSet : List Lit → Valuation → Type 0
AreSet lits w = All (λ a. value_of w a ≡ true) lits

-- of the runs with these values, those that are marked after are those that were marked before and set the literals
abbrev pub Marks : List Lit → List (List ℕ) → List ℕ → List ℕ → Type 0
Marks lits values before after = (r : ℕ) → r < 256 → (value_in after r ≡ true) ↔ ((value_in before r ≡ true) × AreSet lits (row_of r values))

-- one time more is played: words are drawn for each input, each run steps, and those that keep the constraints stay in
pub record Plays (before after : Played) (old new : Lcg) : Type 0 where
  pub circuit : after.circuit ≡ before.circuit
  pub first : after.first ≡ before.first
  pub row : List (List ℕ)
  pub added : after.inputs ≡ before.inputs ++ row ∷ []
  pub drawn : (row, new) ≡ draws (length before.circuit.inputs) old
  pub steps : AllStep before.wide after.wide row
  pub values : List (List ℕ)
  pub has_values : after.wide.now ≡ Some values
  pub stay_in : Marks before.circuit.constraints values before.running after.running
