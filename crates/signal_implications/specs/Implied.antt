-- Signals of which one is true wherever another one is.
use Rattle.std.specs.Prelude.{ℕ, Bool, true, false, List, [], ◌∷◌, slice_get, slice_index_or, Option, None, Some, if◌then◌else◌}
use Rattle.graph.specs.declared.circuit.Lit.{Lit}
use Rattle.cnf.specs.Clauses.{along}
use Rattle.signal_implications.specs.declared.implication.Implication.{Implication}

-- the clause that says that the second literal is true wherever the first is
abbrev pub clause_of : Lit → Lit → List Lit
clause_of high low = along true high ∷ low ∷ []

-- implications, for each whether no run violates it, and the places of those by which others are shown
pub record Implied : Type 0 where
  pub list : List Implication
  pub is_left : List Bool
  pub used : List ℕ

-- the implication at a place, where no run violates it
abbrev pub left_of : Implied → ℕ → Option Implication
left_of i k = if slice_index_or i.is_left k false then slice_get i.list k else None

abbrev pub clauses_said : Option Implication → List (List Lit)
clauses_said None = []
clauses_said (Some i) = clause_of i.high.now i.low.now ∷ []

-- the clause of the implication at a place, where no run violates it
abbrev pub clauses_at : Implied → ℕ → List (List Lit)
clauses_at i k = clauses_said (left_of i k)
