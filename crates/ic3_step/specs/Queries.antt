-- The part of a circuit that a query is about.
use Rattle.std.specs.Prelude.{◌≡◌, ℕ, ◌+◌, Bool, false, Option, None, Some, List, ◌++◌, length, slice_index_or, filter_map, map, All, Contains}
use Rattle.graph.specs.declared.circuit.Lit.{Lit}
use Rattle.graph.specs.declared.circuit.Gate.{Gate}
use Rattle.graph.specs.declared.parts.Parts.{Parts}
use Rattle.graph.specs.Circuits.{variable, place}
use Rattle.cnf.specs.Clauses.{literal, truth_clause}
use Rattle.cones.specs.Marks.{IsMarked, IsCone}
use Rattle.solver.specs.declared.part.AndGate.{AndGate}
use Rattle.solver.specs.declared.part.Part.{Part}
use Rattle.solver.specs.Parts.{IsAnd}

-- a mark for each variable, of which none is set
pub record IsUnasked (m : Parts) (marks : List Bool) : Type 0 where
  pub places : length marks ≡ m.max_var + 1
  pub clear : (v : ℕ) → place marks v ≡ false

-- the gate by literals of clauses
abbrev pub and_gate : ℕ → Gate → AndGate
and_gate n g = record { lhs = literal n 0 g.lhs; rhs0 = literal n 0 g.rhs0; rhs1 = literal n 0 g.rhs1 }

-- the first gate has its value by its right sides exactly where the second has
pub record IsSameAnd (a b : AndGate) : Type 0 where
  pub gate : (v : ℕ → Bool) → IsAnd v a → IsAnd v b
  pub same : (v : ℕ → Bool) → IsAnd v b → IsAnd v a

-- the gate of a variable, by literals of clauses
abbrev pub and_at : List (Option AndGate) → ℕ → Option AndGate
and_at table v = slice_index_or table v None

-- the gates of those of the variables that are gates'
abbrev pub ands_in : List (Option AndGate) → List ℕ → List AndGate
ands_in table list = filter_map (and_at table) list

-- at the gate's variable stands one that has its value exactly where the gate has
abbrev pub HasAnd : ℕ → List (Option AndGate) → Gate → Type 0
HasAnd n table g = (a : AndGate) × (and_at table (variable g.lhs) ≡ Some a) × IsSameAnd a (and_gate n g)

-- the table has such a one for each gate, and nothing else
pub record ArePartGates (m : Parts) (table : List (Option AndGate)) : Type 0 where
  pub gates : All (HasAnd m.max_var table) m.gates
  pub only : (v : ℕ) (a : AndGate) → and_at table v ≡ Some a → (g : Gate) × Contains m.gates g × (variable g.lhs ≡ v)

-- the part has the gates of a cone in which the literals and the constraints are: its gates have their values by their right
-- sides exactly where the gates of the cone have; and what is true, and the constraints
pub record IsPartFor (m : Parts) (lits : List Lit) (part : Part) : Type 0 where
  pub cone : List Bool
  pub closed : IsCone m (IsMarked cone)
  pub asked : All (λ a. IsMarked cone (variable a)) (lits ++ m.constraints)
  pub listed : List Gate
  pub marked : All (λ g. IsMarked cone (variable g.lhs) → Contains listed g) m.gates
  pub gates : (v : ℕ → Bool) → All (IsAnd v) part.gates.items → All (λ g. IsAnd v (and_gate m.max_var g)) listed
  pub same : (v : ℕ → Bool) → All (λ g. IsAnd v (and_gate m.max_var g)) listed → All (IsAnd v) part.gates.items
  pub wanted : part.literals.items ≡ truth_clause m.max_var 0 ++ map (literal m.max_var 0) m.constraints
