-- What marks are closed under, and how they grow.
use Rattle.std.specs.Prelude.{◌≡◌, ℕ, ◌+◌, ◌<◌, ◌⊎◌, Bool, true, false, List, ◌++◌, Option, None, Some, length, slice_index_or, sum_by, filter_map, All, Contains}
use Rattle.graph.specs.declared.circuit.Gate.{Gate}
use Rattle.graph.specs.declared.circuit.Lit.{Lit}
use Rattle.graph.specs.declared.parts.Parts.{Parts}
use Rattle.graph.specs.Circuits.{Valuation, variable, Fires}
use Rattle.cones.specs.declared.reach.Reach.{Reach}
use Rattle.cones.specs.declared.reach.Reach.TheVariants.{Cone, Justification}
use Rattle.cones.specs.Marks.{IsMarked, IsJustified, IsCone}

-- the gate of a variable
abbrev pub gate_at : List (Option Gate) → ℕ → Option Gate
gate_at table v = slice_index_or table v None

-- the table has each gate at its variable, and nothing else
pub record IsGateTable (m : Parts) (table : List (Option Gate)) : Type 0 where
  pub places : length table ≡ m.max_var + 1
  pub gates : All (λ g. gate_at table (variable g.lhs) ≡ Some g) m.gates
  pub only : (v : ℕ) (g : Gate) → gate_at table v ≡ Some g → Contains m.gates g × (variable g.lhs ≡ v)

-- the gates of those of the variables that are gates'
abbrev pub gates_in : List (Option Gate) → List ℕ → List Gate
gates_in table list = filter_map (gate_at table) list

-- what a gate wants marked is marked: both right sides, or what gives it its value
abbrev pub IsSettled : Reach → Valuation → List Bool → Gate → Type 0
IsSettled Cone w t g = IsMarked t (variable g.rhs0) × IsMarked t (variable g.rhs1)
IsSettled Justification w t g = IsJustified (IsMarked t) w g

-- each marked gate has what it wants
abbrev pub IsClosed : Parts → Reach → Valuation → List Bool → Type 0
IsClosed m r w t = All (λ g. IsMarked t (variable g.lhs) → IsSettled r w t g) m.gates

-- the values serve to say what gives the gate its value
abbrev pub Serves : Reach → Valuation → Gate → Type 0
Serves Cone w g = Unit {0}
Serves Justification w g = (variable g.rhs0 < length w) × (variable g.rhs1 < length w) × Fires w g

-- what is marked in the first is marked in the second
abbrev pub IsInside : List Bool → List Bool → Type 0
IsInside t d = (v : ℕ) → IsMarked t v → IsMarked d v

-- a cone in which the values serve
pub record IsDomain (m : Parts) (r : Reach) (w : Valuation) (d : List Bool) : Type 0 where
  pub cone : IsCone m (IsMarked d)
  pub serves : All (λ g. IsMarked d (variable g.lhs) → Serves r w g) m.gates

-- what is newly marked is one of these variables
abbrev pub IsFrom : List ℕ → List Bool → List Bool → Type 0
IsFrom us t u = (v : ℕ) → IsMarked u v → IsMarked t v ⊎ Contains us v

-- 1 for a place that is not marked
abbrev pub idle : Bool → ℕ
idle true = 0
idle false = 1

-- these variables come to be marked, and each that was not is added to the list
pub record Grows (vs : List ℕ) (t : List Bool) (list : List ℕ) (u : List Bool) (longer : List ℕ) : Type 0 where
  pub added : List ℕ
  pub places : length u ≡ length t
  pub kept : (v : ℕ) → IsMarked t v → IsMarked u v
  pub marked : All (IsMarked u) vs
  pub is : longer ≡ list ++ added
  pub only : All (λ v. (v < length t) × IsMarked u v) added
  pub listed : (v : ℕ) → IsMarked u v → IsMarked t v ⊎ Contains added v
  pub rest : sum_by idle u + length added ≡ sum_by idle t

-- marks that are closed again, with these variables, and the list of what is newly marked
pub record IsExtended (m : Parts) (r : Reach) (w : Valuation) (wanted : List Lit) (t u : List Bool) (list : List ℕ) : Type 0 where
  pub places : length u ≡ length t
  pub kept : (v : ℕ) → IsMarked t v → IsMarked u v
  pub marked : All (λ a. IsMarked u (variable a)) wanted
  pub listed : (v : ℕ) → IsMarked u v → IsMarked t v ⊎ Contains list v
  pub only : All (λ v. (v < length t) × IsMarked u v) list
  pub closed : IsClosed m r w u
  pub inside : (d : List Bool) → IsCone m (IsMarked d) → IsInside t d → All (λ a. IsMarked d (variable a)) wanted → IsInside u d
