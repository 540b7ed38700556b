-- A circuit in which latches are read as others that are equal to them.
use Rattle.std.specs.Prelude.{◌≡◌, List, [], map, Option}
use Rattle.graph.specs.declared.circuit.Lit.{Lit}
use Rattle.graph.specs.declared.circuit.Latch.{Latch}
use Rattle.graph.specs.declared.circuit.Gate.{Gate}
use Rattle.graph.specs.declared.parts.Parts.{Parts}
use Rattle.merged.specs.Reading.{read_as, IsTable}

abbrev pub merged_latch : List (Option Lit) → Latch → Latch
merged_latch table l = record { lit = l.lit; next = read_as table l.next; reset = l.reset }

abbrev pub merged_gate : List (Option Lit) → Gate → Gate
merged_gate table g = record { lhs = g.lhs; rhs0 = read_as table g.rhs0; rhs1 = read_as table g.rhs1 }

-- the circuit with all that it reads read so, and nothing but bad literals to show
abbrev pub merged_parts : Parts → List (Option Lit) → Parts
merged_parts m table = record {
  max_var = m.max_var;
  inputs = m.inputs;
  latches = map (merged_latch table) m.latches;
  outputs = [];
  bad = map (read_as table) m.bad;
  constraints = map (read_as table) m.constraints;
  justice = [];
  fairness = [];
  gates = map (merged_gate table) m.gates;
}

-- the second circuit is the first in which latches are read as the clauses say
pub record IsMerged (m s : Parts) (cs : List (List Lit)) : Type 0 where
  pub table : List (Option Lit)
  pub is_table : IsTable cs table
  pub only : s ≡ merged_parts m table
