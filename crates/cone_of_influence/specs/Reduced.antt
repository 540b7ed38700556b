-- The circuit of the variables on which a bad literal and the constraints rest.
use Rattle.std.specs.Prelude.{◌≡◌, ℕ, ◌+◌, ◌-◌, ◌==◌, ◌≤◌, Bool, false, if◌then◌else◌, List, [], ◌∷◌, map, filter, length, slice_index_or, Option, None, Some}
use Rattle.graph.specs.declared.circuit.Lit.{Lit}
use Rattle.graph.specs.declared.circuit.Latch.{Latch}
use Rattle.graph.specs.declared.circuit.Gate.{Gate}
use Rattle.graph.specs.declared.parts.Parts.{Parts}
use Rattle.graph.specs.Circuits.{variable, place}
use Rattle.cnf.specs.Formulas.{bad_literal}
use Rattle.cones.specs.Marks.{IsMarked}
use Rattle.sequential_cones.specs.Cones.{IsConeOf}
use Rattle.cone_of_influence.specs.declared.tables.Tables.{Tables}
use Rattle.cone_of_influence.specs.Numbers.{renamed, IsSmall, AreNumbersTo}

abbrev pub renamed_latch : List ℕ → Latch → Latch
renamed_latch numbers l = record { lit = renamed numbers l.lit; next = renamed numbers l.next; reset = renamed numbers l.reset }

abbrev pub renamed_gate : List ℕ → Gate → Gate
renamed_gate numbers g = record { lhs = renamed numbers g.lhs; rhs0 = renamed numbers g.rhs0; rhs1 = renamed numbers g.rhs1 }

-- the marked inputs, latches and gates, with the numbers as variables, up to this greatest one
abbrev pub reduced_parts : Parts → List Bool → List ℕ → ℕ → Parts
reduced_parts m marks numbers greatest = record {
  max_var = greatest;
  inputs = map (renamed numbers) (filter (λ a. place marks (variable a)) m.inputs);
  latches = map (renamed_latch numbers) (filter (λ l. place marks (variable l.lit)) m.latches);
  outputs = [];
  bad = map (renamed numbers) m.bad;
  constraints = map (renamed numbers) m.constraints;
  justice = [];
  fairness = [];
  gates = map (renamed_gate numbers) (filter (λ g. place marks (variable g.lhs)) m.gates);
}

-- what a latch that is left out begins with, where that is open false; and an input that is left out is false
abbrev pub latch_filler : List Bool → Latch → Option Bool
latch_filler marks l = if place marks (variable l.lit) then None else Some (l.reset.0 == 1)

abbrev pub input_filler : List Bool → Lit → Option Bool
input_filler marks a = if place marks (variable a) then None else Some false

-- the values in their order, with those that are given at the other places
abbrev pub filled : List (Option Bool) → List Bool → List Bool
filled [] values = []
filled (Some b ∷ fillers) values = b ∷ filled fillers values
filled (None ∷ fillers) [] = false ∷ filled fillers []
filled (None ∷ fillers) (b ∷ values) = b ∷ filled fillers values

-- the value at a place that is given, or else the n-th of the values; and which of them comes next
abbrev pub value_for : Option Bool → List Bool → ℕ → Bool
value_for (Some b) values n = b
value_for None values n = slice_index_or values n false

abbrev pub place_after : Option Bool → ℕ → ℕ
place_after (Some b) n = n
place_after None n = n + 1

-- the second circuit is that of a cone of the first one's bad literal, whose variables are numbered in increasing order
pub record IsReduced (m s : Parts) (t : Tables) : Type 0 where
  pub marks : List Bool
  pub numbers : List ℕ
  pub cone : IsConeOf m (bad_literal m 0) marks
  pub numbered : AreNumbersTo marks t.kept numbers (m.max_var + 1)
  pub small : IsSmall t.kept
  pub latches : t.latches ≡ map (latch_filler marks) m.latches
  pub inputs : t.inputs ≡ map (input_filler marks) m.inputs
  pub only : s ≡ reduced_parts m marks numbers (length t.kept - 1)

-- a cone of the bad literal has all variables
pub record IsWhole (m : Parts) : Type 0 where
  pub marks : List Bool
  pub cone : IsConeOf m (bad_literal m 0) marks
  pub all : (v : ℕ) → v ≤ m.max_var → IsMarked marks v
