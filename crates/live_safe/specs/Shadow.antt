-- The shadow circuit of a justice property (liveness to safety; Biere, Artho, Schuppan 2002): an input guesses the time
-- at which a copy of the latches is taken, and the one bad literal is set where the latches equal the copy again, and each
-- wanted literal has been set since.
use Rattle.std.specs.Prelude.{ℕ, ◌+◌, ◌-◌, ◌*◌, ◌%◌, ◌==◌, if◌then◌else◌, List, [], ◌∷◌, ◌++◌, length}
use Rattle.graph.specs.declared.circuit.Lit.{Lit}
use Rattle.graph.specs.declared.circuit.Latch.{Latch}
use Rattle.graph.specs.declared.circuit.Gate.{Gate}
use Rattle.graph.specs.declared.parts.Parts.{Parts}
use Rattle.graph.specs.Circuits.{wanted_of}

-- the literal of a variable
abbrev pub positive : ℕ → Lit
positive v = record { 0 = 2 * v }

-- the negation of a variable
abbrev pub negative : ℕ → Lit
negative v = record { 0 = 2 * v + 1 }

-- the negation of a literal
abbrev pub negation : Lit → Lit
negation a = record { 0 = if a.0 % 2 == 1 then a.0 - 1 else a.0 + 1 }

-- the gate that makes a variable the conjunction of two literals
abbrev pub joins : ℕ → Lit → Lit → Gate
joins v a b = record { lhs = positive v; rhs0 = a; rhs1 = b }

-- the latch of a variable that is reset to 0
abbrev pub cleared : ℕ → Lit → Latch
cleared v next = record { lit = positive v; next = next; reset = record { 0 = 0 } }

-- the new variables begin with the input that asks for the copy
abbrev pub save_of : Parts → ℕ
save_of m = m.max_var + 1

-- then the latch that is set once the copy is taken
abbrev pub saved_of : Parts → ℕ
saved_of m = m.max_var + 2

-- then the copies of the latches
abbrev pub shadow_from : Parts → ℕ
shadow_from m = m.max_var + 3

-- then for each wanted literal the latch that says whether it has been set since
abbrev pub seen_from : Parts → ℕ
seen_from m = m.max_var + 3 + length m.latches

-- then the gates: the copy is taken now, which is save and not saved
abbrev pub start_of : Parts → ℕ → ℕ
start_of m j = m.max_var + 3 + length m.latches + length (wanted_of m j)

-- no copy is or was taken, which is not save and not saved
abbrev pub idle_of : Parts → ℕ → ℕ
idle_of m j = start_of m j + 1

-- six gates for each latch
abbrev pub copies_from : Parts → ℕ → ℕ
copies_from m j = start_of m j + 2

-- two gates for each wanted literal
abbrev pub watches_from : Parts → ℕ → ℕ
watches_from m j = start_of m j + 2 + 6 * length m.latches

-- and the gates that join it all
abbrev pub chain_from : Parts → ℕ → ℕ
chain_from m j = start_of m j + 2 + 6 * length m.latches + 2 * length (wanted_of m j)

-- the gates of each latch l with its copy s: start and l; not start and s; neither of the two; l and not s; not l and s;
-- neither of these two, which says that l and s are equal
abbrev pub copy_gates : ℕ → List Latch → ℕ → ℕ → List Gate
copy_gates start [] shadow v = []
copy_gates start (l ∷ ls) shadow v =
    joins v (positive start) l.lit
    ∷ joins (v + 1) (negative start) (positive shadow)
    ∷ joins (v + 2) (negative v) (negative (v + 1))
    ∷ joins (v + 3) l.lit (negative shadow)
    ∷ joins (v + 4) (negation l.lit) (positive shadow)
    ∷ joins (v + 5) (negative (v + 3)) (negative (v + 4))
    ∷ copy_gates start ls (shadow + 1) (v + 6)

-- the copies' next literals deny the third of those gates
abbrev pub shadow_latches : List Latch → ℕ → ℕ → List Latch
shadow_latches [] shadow v = []
shadow_latches (l ∷ ls) shadow v = cleared shadow (negative (v + 2)) ∷ shadow_latches ls (shadow + 1) (v + 6)

-- each latch equals its copy
abbrev pub equal_literals : List Latch → ℕ → List Lit
equal_literals [] v = []
equal_literals (l ∷ ls) v = positive (v + 5) ∷ equal_literals ls (v + 6)

-- the gates of each wanted literal: it is not set and has not been; a copy is or was taken, and not that
abbrev pub watch_gates : ℕ → List Lit → ℕ → ℕ → List Gate
watch_gates idle [] seen v = []
watch_gates idle (q ∷ qs) seen v =
    joins v (negative seen) (negation q)
    ∷ joins (v + 1) (negative idle) (negative v)
    ∷ watch_gates idle qs (seen + 1) (v + 2)

-- the next literals of the wanted literals' latches are the second of those gates
abbrev pub seen_latches : List Lit → ℕ → ℕ → List Latch
seen_latches [] seen v = []
seen_latches (q ∷ qs) seen v = cleared seen (positive (v + 1)) ∷ seen_latches qs (seen + 1) (v + 2)

-- each wanted literal has been set since the copy was taken
abbrev pub seen_literals : List Lit → ℕ → List Lit
seen_literals [] seen = []
seen_literals (q ∷ qs) seen = positive seen ∷ seen_literals qs (seen + 1)

-- a literal joined in turn with each of a list
abbrev pub chain_gates : List Lit → Lit → ℕ → List Gate
chain_gates [] so_far v = []
chain_gates (a ∷ rest) so_far v = joins v so_far a ∷ chain_gates rest (positive v) (v + 1)

-- the end of that chain, or the literal itself
abbrev pub chain_end : List Lit → Lit → ℕ → Lit
chain_end [] so_far v = so_far
chain_end (a ∷ rest) so_far v = chain_end rest (positive v) (v + 1)

-- what is joined: the latches equal their copies, and the wanted literals have been set
abbrev pub chained : Parts → ℕ → List Lit
chained m j = equal_literals m.latches (copies_from m j) ++ seen_literals (wanted_of m j) (seen_from m)

-- the latches that are added
abbrev pub new_latches : Parts → ℕ → List Latch
new_latches m j =
    cleared (saved_of m) (negative (idle_of m j))
    ∷ (shadow_latches m.latches (shadow_from m) (copies_from m j) ++ seen_latches (wanted_of m j) (seen_from m) (watches_from m j))

-- the gates that are added
abbrev pub new_gates : Parts → ℕ → List Gate
new_gates m j =
    joins (start_of m j) (positive (save_of m)) (negative (saved_of m))
    ∷ joins (idle_of m j) (negative (save_of m)) (negative (saved_of m))
    ∷ (copy_gates (start_of m j) m.latches (shadow_from m) (copies_from m j)
    ++ (watch_gates (idle_of m j) (wanted_of m j) (seen_from m) (watches_from m j)
    ++ chain_gates (chained m j) (positive (saved_of m)) (chain_from m j)))

-- the bad literal: the copy was taken, and all that is joined
abbrev pub closing_literal : Parts → ℕ → Lit
closing_literal m j = chain_end (chained m j) (positive (saved_of m)) (chain_from m j)

-- the old inputs, latches, gates and constraints, then the new ones; and nothing else to show
abbrev pub shadow_of : Parts → ℕ → Parts
shadow_of m j = record {
  max_var = m.max_var + 4 + 8 * length m.latches + 4 * length (wanted_of m j);
  inputs = m.inputs ++ positive (save_of m) ∷ [];
  latches = m.latches ++ new_latches m j;
  outputs = [];
  bad = closing_literal m j ∷ [];
  constraints = m.constraints;
  justice = [];
  fairness = [];
  gates = m.gates ++ new_gates m j;
}
