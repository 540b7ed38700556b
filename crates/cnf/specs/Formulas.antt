-- The formulas of a circuit, and what is asked of an invariant.
use Rattle.std.specs.Prelude.{◌≡◌, ℕ, ◌+◌, ◌*◌, ◌<◌, ◌≤◌, ◌⊎◌, List, [], All, Contains, ℤ, length, map, slice_index_or, unsigned_abs}
use Rattle.graph.specs.declared.circuit.Lit.{Lit}
use Rattle.graph.specs.declared.circuit.Gate.{Gate}
use Rattle.graph.specs.declared.parts.Parts.{Parts}
use Rattle.graph.specs.Circuits.{variable, defined}
use Rattle.lrat.specs.declared.formula.Formula.{Formula}
use Rattle.cnf.specs.Clauses.{truth_clause, frame_clauses, start_clauses, init_clauses, shared_clauses, step_clauses, bad_clauses}

-- clauses over the variables of one time
abbrev pub formula_of : Parts → List (List ℤ) → Formula
formula_of m cs = record { vars = m.max_var + 1; clauses = cs }

abbrev pub frame_formula : Parts → Formula
frame_formula m = formula_of m (frame_clauses m)

abbrev pub start_formula : Parts → Formula
start_formula m = formula_of m (start_clauses m)

abbrev pub init_formula : Parts → List Lit → Formula
init_formula m c = formula_of m (init_clauses m c)

abbrev pub shared_formula : Parts → List (List Lit) → Formula
shared_formula m inv = formula_of m (shared_clauses m inv)

abbrev pub step_formula : Parts → List (List Lit) → List Lit → Formula
step_formula m inv c = formula_of m (step_clauses m inv c)

abbrev pub bad_formula : Parts → List (List Lit) → Lit → Formula
bad_formula m inv a = formula_of m (bad_clauses m inv a)

-- each literal of the clause is a latch's or the negation of one
abbrev pub IsOverLatches : Parts → List Lit → Type 0
IsOverLatches m c = All (λ a. Contains (map (λ l. variable l.lit) m.latches) (variable a)) c

-- a clause over the latches, of a length in the limits
pub record IsClause (m : Parts) (c : List Lit) : Type 0 where
  pub over : IsOverLatches m c
  pub short : length c ≤ 4194303

-- clauses over the latches, as many as the limits allow
pub record IsInvariant (m : Parts) (inv : List (List Lit)) : Type 0 where
  pub clauses : All (IsClause m) inv
  pub few : length inv ≤ 4194303

-- the invariant's k-th clause
abbrev pub clause_at : List (List Lit) → ℕ → List Lit
clause_at inv k = slice_index_or inv k []

-- the n-th bad literal
abbrev pub bad_literal : Parts → ℕ → Lit
bad_literal m n = slice_index_or m.bad n (record { 0 = 0 })

-- the literal is no greater than the greatest variable's
abbrev pub IsInRange : ℕ → Lit → Type 0
IsInRange n a = a.0 ≤ 2 * n + 1

pub record IsGateIn (n : ℕ) (g : Gate) : Type 0 where
  pub lhs : IsInRange n g.lhs
  pub rhs0 : IsInRange n g.rhs0
  pub rhs1 : IsInRange n g.rhs1

-- u is, at one of the first times, the variable that is true or one that the circuit defines
abbrev pub IsOfTimes : Parts → ℕ → ℕ → Type 0
IsOfTimes m times u =
    (t : ℕ) × (v : ℕ) × (t < times) × (u ≡ t * (m.max_var + 1) + v) × ((v ≡ m.max_var + 1) ⊎ Contains (defined m) v)

-- the truth of each of the times is a unit, and no variable occurs that the circuit leaves undefined
pub record IsOver (m : Parts) (times : ℕ) (cs : List (List ℤ)) : Type 0 where
  pub truths : (t : ℕ) → t < times → Contains cs (truth_clause m.max_var (t * (m.max_var + 1)))
  pub defined_only : All (All (λ l. IsOfTimes m times (unsigned_abs l))) cs
