-- A circuit in which gates stand for the latches whose resets are functions.
use Rattle.std.specs.Prelude.{ℕ, ◌+◌, ◌-◌, List, [], ◌∷◌, ◌++◌, Option, Some, None}
use Rattle.graph.specs.declared.circuit.Lit.{Lit}
use Rattle.graph.specs.declared.circuit.Latch.{Latch}
use Rattle.graph.specs.declared.circuit.Gate.{Gate}
use Rattle.graph.specs.declared.parts.Parts.{Parts}
use Rattle.live_safe.specs.Shadow.{positive, negative, negation, joins, cleared}

-- the first of the resets by the latches' positions, or none behind the last one
abbrev pub head : List (Option Lit) → Option Lit
head [] = None
head (x ∷ resets) = x

-- the other ones
abbrev pub others : List (Option Lit) → List (Option Lit)
others [] = []
others (x ∷ resets) = resets

-- three new variables for a latch whose reset is a function
abbrev pub behind : Option Lit → ℕ → ℕ
behind None v = v
behind (Some x) v = v + 3

-- the first variable behind those of all latches
abbrev pub end_of : List Latch → List (Option Lit) → ℕ → ℕ
end_of [] resets v = v
end_of (l ∷ ls) resets v = end_of ls (others resets) (behind (head resets) v)

-- in its place a latch of the first of them, with its next literal
abbrev pub latch_for : Latch → Option Lit → ℕ → Latch
latch_for l None v = l
latch_for l (Some x) v = cleared v l.next

abbrev pub latches_for : List Latch → List (Option Lit) → ℕ → List Latch
latches_for [] resets v = []
latches_for (l ∷ ls) resets v = latch_for l (head resets) v ∷ latches_for ls (others resets) (behind (head resets) v)

-- gates of the other two, it is the first time and the function is false, and it is a later time and that latch is false;
-- and one of the latch's own variable, none of the two
abbrev pub gates_for : ℕ → Latch → Option Lit → ℕ → List Gate
gates_for first l None v = []
gates_for first l (Some x) v =
    joins (v + 1) (positive first) (negation x)
    ∷ joins (v + 2) (negative first) (negative v)
    ∷ record { lhs = l.lit; rhs0 = negative (v + 1); rhs1 = negative (v + 2) }
    ∷ []

abbrev pub all_gates_for : ℕ → List Latch → List (Option Lit) → ℕ → List Gate
all_gates_for first [] resets v = []
all_gates_for first (l ∷ ls) resets v =
    gates_for first l (head resets) v ++ all_gates_for first ls (others resets) (behind (head resets) v)

-- the latch that says whether the time is the first one
abbrev pub first_latch : ℕ → Latch
first_latch v = record { lit = positive v; next = record { 0 = 0 }; reset = record { 0 = 1 } }

-- the circuit with that latch behind the others, and with those gates behind its own
abbrev pub with_gates : Parts → List (Option Lit) → Parts
with_gates m resets =
    record m {
      max_var = end_of m.latches resets (m.max_var + 2) - 1;
      latches = latches_for m.latches resets (m.max_var + 2) ++ first_latch (m.max_var + 1) ∷ [];
      gates = m.gates ++ all_gates_for (m.max_var + 1) m.latches resets (m.max_var + 2);
    }
