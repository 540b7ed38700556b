-- A circuit at two times, as one circuit.
use Rattle.std.specs.Prelude.{◌≡◌, ℕ, ◌+◌, ◌*◌, ◌<◌, ◌≤◌, List, [], ◌++◌, map, length, slice_index_or, Option, Contains, if◌then◌else◌}
use Rattle.graph.specs.declared.circuit.Gate.{Gate}
use Rattle.graph.specs.declared.circuit.Lit.{Lit}
use Rattle.graph.specs.declared.parts.Parts.{Parts}
use Rattle.graph.specs.Circuits.{variable}
use Rattle.cnf.specs.Clauses.{along, is_negated, next_of}
use Rattle.cnf.specs.Tables.{is_latch_in, next_in}
use Rattle.cones.specs.Reach.{IsGateTable}
use Rattle.signal_classes.specs.declared.pairing.Pair.{Pair}

-- what a list has for a variable, or the constant
abbrev pub lit_at : List Lit → ℕ → Lit
lit_at lits v = slice_index_or lits v (record { 0 = 0 })

-- the literal of a variable at the next time, by a table of the latches: a latch's is its next literal, and each other variable is
-- another one then, which is n behind it
abbrev pub later_in : List (Option Lit) → ℕ → ℕ → Lit
later_in table n v = if is_latch_in table v then next_in table (record { 0 = 2 * v }) else record { 0 = 2 * (v + n) }

-- for each variable of the circuit the list has its literal at the next time
pub record AreLater (m : Parts) (later : List Lit) : Type 0 where
  pub places : length later ≡ m.max_var + 1
  pub constant : lit_at later 0 ≡ record { 0 = 0 }
  pub latches : (v : ℕ) → 0 < v → v ≤ m.max_var → Contains (map (λ l. variable l.lit) m.latches) v → lit_at later v ≡ next_of m.latches (record { 0 = 2 * v })
  pub others : (v : ℕ) → 0 < v → v ≤ m.max_var → (Contains (map (λ l. variable l.lit) m.latches) v → ⊥) → lit_at later v ≡ record { 0 = 2 * (v + m.max_var) }

-- the literal at the next time, by those of the variables
abbrev pub at_next : List Lit → Lit → Lit
at_next later a = along (is_negated a) (lit_at later (variable a))

-- the gate at the next time
abbrev pub gate_next : List Lit → Gate → Gate
gate_next later g = record { lhs = at_next later g.lhs; rhs0 = at_next later g.rhs0; rhs1 = at_next later g.rhs1 }

-- the circuit has no latches and properties, and its gates are those of both times. Its inputs are the latches, the inputs and the
-- inputs of the next time
pub record IsTwice (m : Parts) (later : List Lit) (twice : Parts) : Type 0 where
  pub variables : twice.max_var ≡ 2 * m.max_var
  pub latches : twice.latches ≡ []
  pub constraints : twice.constraints ≡ []
  pub inputs : twice.inputs ≡ map (λ l. l.lit) m.latches ++ m.inputs ++ map (at_next later) m.inputs
  pub gates : twice.gates ≡ m.gates ++ map (gate_next later) m.gates

-- the pair is of this circuit
pub record IsPairOf (m : Parts) (p : Pair) : Type 0 where
  pub later : AreLater m p.later.items
  pub twice : IsTwice m p.later.items p.circuit
  pub table : IsGateTable p.circuit p.table
  pub first : p.first.items ≡ m.constraints
  pub both : p.both.items ≡ m.constraints ++ map (at_next p.later.items) m.constraints
