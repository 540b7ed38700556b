-- Latches that say what literals were before.
use Rattle.std.specs.Prelude.{ℕ, zero, suc, ◌+◌, ◌*◌, List, [], ◌∷◌}
use Rattle.graph.specs.declared.circuit.Latch.{Latch}
use Rattle.graph.specs.declared.circuit.Lit.{Lit}

-- the literal that is true where a variable is
abbrev pub variable_literal : ℕ → Lit
variable_literal v = record { 0 = 2 * v }

-- the literal that is true where a variable is not
abbrev pub negated_literal : ℕ → Lit
negated_literal v = record { 0 = 2 * v + 1 }

-- the latch of a variable that is what a literal was a time before, and 0 at a first time
abbrev pub delayed : ℕ → Lit → Latch
delayed v a = record { lit = variable_literal v; next = a; reset = record { 0 = 0 } }

-- so many latches, of the variables behind this one: each is what the one before it was, and the first what the literal was
abbrev pub row_latches : ℕ → Lit → ℕ → List Latch
row_latches v a zero = []
row_latches v a (suc n) = delayed (v + 1) a ∷ row_latches (v + 1) (variable_literal (v + 1)) n
