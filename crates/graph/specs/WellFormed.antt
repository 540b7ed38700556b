-- Which parts make a circuit (AIGER 1.9, with this project's limits).
use Rattle.std.specs.Prelude.{◌≡◌, ℕ, ◌+◌, ◌*◌, ◌%◌, ◌<◌, ◌≤◌, ◌≢◌, ◌⊎◌, List, [], ◌∷◌, ◌++◌, map, length, sum_by, slice_index, slice_index_or, All, Any, AllPairs, Contains}
use Rattle.graph.specs.declared.circuit.Lit.{Lit}
use Rattle.graph.specs.declared.circuit.Gate.{Gate}
use Rattle.graph.specs.declared.circuit.Property.{Property}
use Rattle.graph.specs.declared.parts.Parts.{Parts}
use Rattle.graph.specs.Circuits.{variable, defined, defining, justice_literals, HasReset, IsWatched}

-- the literals that are only used
abbrev pub used : Parts → List Lit
used m =
    map (λ l. l.next) m.latches ++ m.outputs ++ m.bad ++ m.constraints ++ justice_literals m.justice ++ m.fairness
    ++ map (λ g. g.rhs0) m.gates ++ map (λ g. g.rhs1) m.gates

-- v is the variable of a right side of the gate
abbrev pub Reads : Gate → ℕ → Type 0
Reads g v = (variable g.rhs0 ≡ v) ⊎ (variable g.rhs1 ≡ v)

-- u is the variable of a gate that has v among its right sides
abbrev pub Needs : List Gate → ℕ → ℕ → Type 0
Needs gates u v = Any (λ g. (variable g.lhs ≡ u) × Reads g v) gates

-- each variable of the list needs the next
abbrev pub IsChain : List Gate → List ℕ → Type 0
IsChain gates [] = Unit {0}
IsChain gates (u ∷ []) = Unit {0}
IsChain gates (u ∷ v ∷ vs) = Needs gates u v × IsChain gates (v ∷ vs)

-- right sides lead from u to v, in one step or more
abbrev pub LeadsTo : List Gate → ℕ → ℕ → Type 0
LeadsTo gates u v = (vs : List ℕ) × IsChain gates (u ∷ vs ++ v ∷ [])

-- no variable is led back to
abbrev pub HasNoCycle : List Gate → Type 0
HasNoCycle gates = (v : ℕ) → LeadsTo gates v v → ⊥

-- no count is over the limit
pub record IsInLimits (m : Parts) : Type 0 where
  pub max_var : m.max_var ≤ 4194303
  pub inputs : length m.inputs ≤ 4194303
  pub latches : length m.latches ≤ 4194303
  pub outputs : length m.outputs ≤ 4194303
  pub gates : length m.gates ≤ 4194303
  pub bad : length m.bad ≤ 4194303
  pub constraints : length m.constraints ≤ 4194303
  pub justice : length m.justice ≤ 4194303
  pub fairness : length m.fairness ≤ 4194303
  pub justice_sum : sum_by length m.justice ≤ 4194303

pub record IsWellFormed (m : Parts) : Type 0 where
  pub limits : IsInLimits m
  pub defining_even : All (λ a. (2 ≤ a.0) × (a.0 % 2 ≡ 0)) (defining m)
  pub defining_in_range : All (λ a. a.0 ≤ 2 * m.max_var + 1) (defining m)
  pub used_in_range : All (λ a. a.0 ≤ 2 * m.max_var + 1) (used m)
  pub resets : All HasReset m.latches
  pub defined_once : AllPairs (λ u v. u ≢ v) (defined m)
  pub used_defined : All (λ a. (variable a ≡ 0) ⊎ Contains (defined m) (variable a)) (used m)
  pub no_cycle : HasNoCycle m.gates

-- the gate that stands at the k-th place of the order
abbrev pub gate_in : List Gate → List ℕ → ℕ → Gate → Gate
gate_in gates order k d = slice_index_or gates (slice_index order k) d

-- each gate's position once, each after the gates that define its right sides
pub record IsOrder (gates : List Gate) (order : List ℕ) : Type 0 where
  pub in_range : All (λ i. i < length gates) order
  pub once : AllPairs (λ i j. i ≢ j) order
  pub each : (i : ℕ) → i < length gates → Contains order i
  pub after : (j k : ℕ) (d : Gate) → j < length order → k < length order →
      Reads (gate_in gates order j d) (variable (gate_in gates order k d).lhs) → k < j

-- what the type of a circuit keeps
pub record IsModel (m : Parts) (order : List ℕ) : Type 0 where
  pub well_formed : IsWellFormed m
  pub ordered : IsOrder m.gates order

-- the same circuit and constraints with one bad literal and nothing else to show
abbrev pub only_bad : Parts → Lit → Parts
only_bad m a = record m { outputs = []; bad = a ∷ []; justice = []; fairness = [] }

-- the second circuit is the first with the literal that the property watches as its one bad literal, and nothing else to
-- show
pub record IsAlone (m : Parts) (p : Property) (one : Parts) : Type 0 where
  pub bad : Lit
  pub watched : IsWatched m p bad
  pub only : one ≡ only_bad m bad
