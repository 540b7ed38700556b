-- Cuts of variables: at most four variables of which the value is a function (Cong, Wu, Ding 1999; Mishchenko, Cho, Chatterjee, Brayton 2007).
use Rattle.std.specs.Prelude.{◌≡◌, ℕ, ◌+◌, ◌<◌, ◌≤◌, ◌⊎◌, Bool, List, map, length, slice_index_or, Contains}
use Rattle.graph.specs.declared.circuit.Gate.{Gate}
use Rattle.graph.specs.declared.parts.Parts.{Parts}
use Rattle.graph.specs.Circuits.{Valuation, variable, place, Agrees}
use Rattle.graph.specs.WellFormed.{IsOrder, gate_in}
use Rattle.truth_tables.specs.Tables.{value}
use Rattle.cuts.specs.declared.cut.Cut.{Cut}

-- the value of the cut's function, for the values of its leaves
abbrev pub cut_value : Valuation → Cut → Bool
cut_value w c = value c.table (place w c.leaves.0) (place w c.leaves.1) (place w c.leaves.2) (place w c.leaves.3)

-- in each valuation that agrees with the gates the variable has the value of the cut's function
abbrev pub IsCutOf : Parts → ℕ → Cut → Type 0
IsCutOf m v c = (w : Valuation) → Agrees m w → place w v ≡ cut_value w c

-- the variable is a leaf of the cut
abbrev pub IsLeaf : Cut → ℕ → Type 0
IsLeaf c u = (c.leaves.0 ≡ u) ⊎ (c.leaves.1 ≡ u) ⊎ (c.leaves.2 ≡ u) ⊎ (c.leaves.3 ≡ u)

abbrev pub no_cut : Cut
no_cut = record { table = 0; leaves = (0, 0, 0, 0) }

abbrev pub cut_at : List Cut → ℕ → Cut
cut_at cuts v = slice_index_or cuts v no_cut

abbrev pub no_gate : Gate
no_gate = record { lhs = record { 0 = 0 }; rhs0 = record { 0 = 0 }; rhs1 = record { 0 = 0 } }

-- the variable that the n-th gate of the order defines
abbrev pub left_in : Parts → List ℕ → ℕ → ℕ
left_in m order n = variable (gate_in m.gates order n no_gate).lhs

-- the constant, or the variable of an input, a latch or one of the first n gates of the order
abbrev pub IsBefore : Parts → List ℕ → ℕ → ℕ → Type 0
IsBefore m order n u =
    (u ≡ 0) ⊎ Contains (map variable m.inputs) u ⊎ Contains (map (λ l. variable l.lit) m.latches) u ⊎ ((k : ℕ) × (k < n) × (k < length order) × (left_in m order k ≡ u))

-- a cut for each variable; a gate's leaves come before it in each order of the gates
pub record AreCuts (m : Parts) (cuts : List Cut) : Type 0 where
  pub places : length cuts ≡ m.max_var + 1
  pub each : (v : ℕ) → v ≤ m.max_var → IsCutOf m v (cut_at cuts v)
  pub range : (v u : ℕ) → v ≤ m.max_var → IsLeaf (cut_at cuts v) u → u ≤ m.max_var
  pub before : (order : List ℕ) → IsOrder m.gates order → (n u : ℕ) → n < length order → IsLeaf (cut_at cuts (left_in m order n)) u → IsBefore m order n u
