-- The next literals of the latches, as a table by variable.
use Rattle.std.specs.Prelude.{◌≡◌, ℕ, Bool, true, false, List, Option, None, Some, IsTrue, ◌↔◌, map, slice_index_or, Contains}
use Rattle.graph.specs.declared.circuit.Lit.{Lit}
use Rattle.graph.specs.declared.circuit.Latch.{Latch}
use Rattle.graph.specs.Circuits.{variable}
use Rattle.cnf.specs.Clauses.{is_negated, along, next_of}

-- along a latch's next literal, or the literal itself where its variable is no latch
abbrev pub along_or : Option Lit → Lit → Lit
along_or None a = a
along_or (Some b) a = along (is_negated a) b

-- what the table says of a variable
abbrev pub entry : List (Option Lit) → ℕ → Option Lit
entry t v = slice_index_or t v None

-- what the table gives for a literal
abbrev pub next_in : List (Option Lit) → Lit → Lit
next_in t a = along_or (entry t (variable a)) a

abbrev pub holds_some : Option Lit → Bool
holds_some None = false
holds_some (Some b) = true

-- whether the table has a latch of the variable
abbrev pub is_latch_in : List (Option Lit) → ℕ → Bool
is_latch_in t v = holds_some (entry t v)

-- the table has the latches and their next literals
pub record IsTableOf (ls : List Latch) (t : List (Option Lit)) : Type 0 where
  pub nexts : (a : Lit) → next_in t a ≡ next_of ls a
  pub latches : (v : ℕ) → IsTrue (is_latch_in t v) ↔ Contains (map (λ l. variable l.lit) ls) v
