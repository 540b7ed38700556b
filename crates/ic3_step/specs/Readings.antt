-- The literals of a query, and what is read off a solver's answer to it.
use Rattle.std.specs.Prelude.{ℕ, ◌+◌, ◌*◌, ◌==◌, Bool, true, false, if◌then◌else◌, nat_lt, List, ◌++◌, map, filter_map, slice_index_or, Option, None, Some, ℤ, pos, negsuc, unsigned_abs}
use Rattle.graph.specs.declared.circuit.Lit.{Lit}
use Rattle.graph.specs.declared.parts.Parts.{Parts}
use Rattle.graph.specs.Circuits.{variable}
use Rattle.cnf.specs.Clauses.{literal}
use Rattle.ic3_step.specs.declared.assignment.Assignment.{Assignment}
use Rattle.ic3_step.specs.Contents.{guard_literal}

-- what is assumed: the guards, then the literals
abbrev pub assumptions_of : Parts → List ℕ → List Lit → List ℤ
assumptions_of m guards lits = map (guard_literal m) guards ++ map (literal m.max_var 0) lits

-- the value of the literal's variable
abbrev pub value_at : List Bool → Lit → Bool
value_at values a = slice_index_or values (variable a) false

-- the values of the latches and of the inputs, and all of them
abbrev pub time_at : Parts → List Bool → Assignment
time_at m values = record { state = map (λ l. value_at values l.lit) m.latches; inputs = map (value_at values) m.inputs; values = values }

-- whether a literal of clauses is its variable's negation
abbrev pub is_negation : ℤ → Bool
is_negation (pos v) = false
is_negation (negsuc v) = true

-- the circuit's literal for a variable of clauses or its negation: a guard's variable has none, and what is true is 1
abbrev pub circuit_lit : ℕ → Bool → ℕ → Option Lit
circuit_lit n negated v =
    if nat_lt (n + 1) v then None
    else (if v == n + 1 then Some (if negated then record { 0 = 0 } else record { 0 = 1 })
    else Some (if negated then record { 0 = 2 * v + 1 } else record { 0 = 2 * v }))

-- the circuit's literal for a literal of clauses
abbrev pub lit_for : ℕ → ℤ → Option Lit
lit_for n l = circuit_lit n (is_negation l) (unsigned_abs l)

-- the circuit's literals of a core, without its guards
abbrev pub core_lits : ℕ → List ℤ → List Lit
core_lits n core = filter_map (lit_for n) core
