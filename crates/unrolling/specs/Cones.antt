-- The cone of influence (COI): all that the bad literals and the constraints depend on at any time.
use Rattle.std.specs.Prelude.{◌≡◌, ◌≢◌, ℕ, ◌+◌, ◌*◌, ◌<◌, ◌≤◌, ◌⊎◌, Bool, List, map, length, slice_index_or, All, AllPairs, Contains}
use Rattle.graph.specs.declared.circuit.Lit.{Lit}
use Rattle.graph.specs.declared.circuit.Latch.{Latch}
use Rattle.graph.specs.declared.parts.Parts.{Parts}
use Rattle.graph.specs.Circuits.{variable}
use Rattle.cnf.specs.Clauses.{next_of}
use Rattle.cones.specs.Marks.{IsMarked}
use Rattle.cuts.specs.declared.cut.Cut.{Cut}
use Rattle.cuts.specs.Cuts.{IsCutOf, IsLeaf, no_cut, cut_at}
use Rattle.unrolling.specs.declared.cone.Cell.{Cell}
use Rattle.unrolling.specs.declared.cone.Cone.{Cone}

-- the variables of the inputs and of the latches, by their positions
abbrev pub input_at : List Lit → ℕ → ℕ
input_at inputs i = variable (slice_index_or inputs i (record { 0 = 0 }))

abbrev pub no_latch : Latch
no_latch = record { lit = record { 0 = 0 }; next = record { 0 = 0 }; reset = record { 0 = 0 } }

abbrev pub latch_at : List Latch → ℕ → Latch
latch_at latches i = slice_index_or latches i no_latch

abbrev pub no_cell : Cell
no_cell = record { variable = 0; cut = no_cut }

abbrev pub cell_at : List Cell → ℕ → Cell
cell_at cells i = slice_index_or cells i no_cell

abbrev pub is_marked_input : List Bool → List Lit → ℕ → Type 0
is_marked_input marks inputs i = IsMarked marks (input_at inputs i)

abbrev pub is_marked_latch : List Bool → List Latch → ℕ → Type 0
is_marked_latch marks latches i = IsMarked marks (variable (latch_at latches i).lit)

-- what the variable depends on is marked: the leaves of its cut, and of a latch the next literal
pub record IsVisited (m : Parts) (cuts : List Cut) (marks : List Bool) (v : ℕ) : Type 0 where
  pub leaves : (u : ℕ) → IsLeaf (cut_at cuts v) u → IsMarked marks u
  pub next : IsMarked marks (variable (next_of m.latches (record { 0 = 2 * v })))

-- the bad literals and the constraints are marked, and with each variable what it depends on
pub record IsClosed (m : Parts) (cuts : List Cut) (marks : List Bool) : Type 0 where
  pub places : length marks ≡ m.max_var + 1
  pub bad : All (λ a. IsMarked marks (variable a)) m.bad
  pub constraints : All (λ a. IsMarked marks (variable a)) m.constraints
  pub visited : (v : ℕ) → IsMarked marks v → IsVisited m cuts marks v

-- positions below n, each once: those of P
pub record ArePositions (P : ℕ → Type 0) (n : ℕ) (list : List ℕ) : Type 0 where
  pub inside : All (λ i. i < n) list
  pub once : AllPairs (λ i j. i ≢ j) list
  pub each : (i : ℕ) → i < n → P i → Contains list i
  pub only : All P list
  pub few : length list ≤ n

-- the constant, or a variable of an input or a latch
abbrev pub IsOutside : Parts → ℕ → Type 0
IsOutside m v = (v ≡ 0) ⊎ Contains (map variable m.inputs) v ⊎ Contains (map (λ l. variable l.lit) m.latches) v

-- the variable of one of the first n cells
abbrev pub IsLeft : List Cell → ℕ → ℕ → Type 0
IsLeft cells n v = (k : ℕ) × (k < n) × (k < length cells) × ((cell_at cells k).variable ≡ v)

-- the marked gates of the circuit with their cuts, each after its marked leaves
pub record AreOrdered (m : Parts) (cuts : List Cut) (marks : List Bool) (cells : List Cell) : Type 0 where
  pub among : All (λ c. (c.variable ≤ m.max_var) × (c.cut ≡ cut_at cuts c.variable) × IsMarked marks c.variable) cells
  pub each : All (λ g. IsMarked marks (variable g.lhs) → IsLeft cells (length cells) (variable g.lhs)) m.gates
  pub after : (n u : ℕ) → n < length cells → IsLeaf (cell_at cells n).cut u → IsMarked marks u → IsOutside m u ⊎ IsLeft cells n u
  pub few : length cells ≤ length m.gates

-- the constant, or the variable of one of the first i inputs, j latches or n cells of the cone
abbrev pub IsFilled : Parts → Cone → ℕ → ℕ → ℕ → ℕ → Type 0
IsFilled m c i j n v =
    (v ≡ 0) ⊎ ((k : ℕ) × (k < i) × (input_at m.inputs (slice_index_or c.inputs.items k 0) ≡ v))
    ⊎ ((k : ℕ) × (k < j) × (variable (latch_at m.latches (slice_index_or c.latches.items k 0)).lit ≡ v)) ⊎ ((k : ℕ) × (k < n) × ((cell_at c.cells.items k).variable ≡ v))

-- the constant, or a variable of the cone
abbrev pub IsIn : Parts → Cone → ℕ → Type 0
IsIn m c v = IsFilled m c (length c.inputs.items) (length c.latches.items) (length c.cells.items) v

-- inputs, latches and gates of the circuit, on which all depends that is asked for
pub record IsConeOf (m : Parts) (c : Cone) : Type 0 where
  pub inputs : All (λ i. i < length m.inputs) c.inputs.items
  pub inputs_once : AllPairs (λ i j. i ≢ j) c.inputs.items
  pub latches : All (λ i. i < length m.latches) c.latches.items
  pub latches_once : AllPairs (λ i j. i ≢ j) c.latches.items
  pub few : length c.inputs.items + length c.latches.items + length c.cells.items ≤ 4194303
  pub cells : All (λ x. IsCutOf m x.variable x.cut) c.cells.items
  pub range : All (λ x. (x.variable ≤ m.max_var) × ((u : ℕ) → IsLeaf x.cut u → u ≤ m.max_var)) c.cells.items
  pub reads : (n u : ℕ) → n < length c.cells.items → IsLeaf (cell_at c.cells.items n).cut u → IsFilled m c (length c.inputs.items) (length c.latches.items) n u
  pub bad : All (λ a. IsIn m c (variable a)) m.bad
  pub constraints : All (λ a. IsIn m c (variable a)) m.constraints
  pub nexts : (k : ℕ) → k < length c.latches.items → IsIn m c (variable (next_of m.latches (latch_at m.latches (slice_index_or c.latches.items k 0)).lit))
