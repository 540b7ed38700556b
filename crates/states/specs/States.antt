-- States of a circuit and clauses over them (Bradley 2011).
use Rattle.std.specs.Prelude.{◌≡◌, ℕ, Bool, false, List, slice_index_or, All, Contains}
use Rattle.graph.specs.declared.parts.Parts.{Parts}
use Rattle.graph.specs.Circuits.{Valuation, Agrees}
use Rattle.cnf.specs.Meaning.{KeepsNow}
use Rattle.states.specs.declared.state_lit.StateLit.{StateLit}

-- the value of a latch in a state
abbrev pub latch_at : List Bool → ℕ → Bool
latch_at s i = slice_index_or s i false

-- the latch has the literal's value
abbrev pub IsSet : List Bool → StateLit → Type 0
IsSet s a = latch_at s a.latch ≡ a.value

-- one of the clause's literals is set in the state
abbrev pub Holds : List Bool → List StateLit → Type 0
Holds s c = (a : StateLit) × Contains c a × IsSet s a

-- no literal of the clause is set in the state
abbrev pub Denies : List Bool → List StateLit → Type 0
Denies s c = All (λ a. IsSet s a → ⊥) c

-- each literal of the first clause is one of the second
abbrev pub IsPartOf : List StateLit → List StateLit → Type 0
IsPartOf c d = (a : StateLit) → Contains c a → Contains d a

-- the valuation agrees with the circuit and keeps the constraints
pub record IsTime (m : Parts) (w : Valuation) : Type 0 where
  pub agrees : Agrees m w
  pub keeps : KeepsNow m w
