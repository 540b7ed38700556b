-- A circuit whose one bad literal is set exactly where a literal is set or a clause is false.
use Rattle.std.specs.Prelude.{◌≡◌, ℕ, ◌+◌, Bool, true, false, not, ◌&&◌, ◌||◌, List, [], ◌∷◌, ◌++◌, map, length}
use Rattle.graph.specs.declared.circuit.Lit.{Lit}
use Rattle.graph.specs.declared.circuit.Latch.{Latch}
use Rattle.graph.specs.declared.circuit.Gate.{Gate}
use Rattle.graph.specs.declared.parts.Parts.{Parts}
use Rattle.graph.specs.Circuits.{Valuation, value_of, Agrees}
use Rattle.graph.specs.WellFormed.{only_bad}
use Rattle.live_safe.specs.Shadow.{positive, negation, joins, chain_gates, chain_end}
use Rattle.extension.specs.Extended.{extended}
use Rattle.extension.specs.Rounds.{always}

-- the value of a clause: one of its literals is true
abbrev pub is_true : Valuation → List Lit → Bool
is_true w [] = false
is_true w (a ∷ c) = value_of w a || is_true w c

-- whether all clauses are true
abbrev pub are_true : Valuation → List (List Lit) → Bool
are_true w [] = true
are_true w (c ∷ cs) = is_true w c && are_true w cs

-- the clause is false: the end of a chain of gates from the variable on, which joins the negations of its literals
abbrev pub denied : List Lit → ℕ → Lit
denied c v = chain_end (map negation c) always v

-- that chain, and the gate behind it: what was true so far, and the clause
abbrev pub clause_gates : List Lit → Lit → ℕ → List Gate
clause_gates c so_far v = chain_gates (map negation c) always v ++ joins (v + length c) so_far (negation (denied c v)) ∷ []

-- those gates of each clause
abbrev pub property_gates : List (List Lit) → Lit → ℕ → List Gate
property_gates [] so_far v = []
property_gates (c ∷ cs) so_far v = clause_gates c so_far v ++ property_gates cs (positive (v + length c)) (v + length c + 1)

-- the last of them, which says that what was true at first and all clauses are true
abbrev pub property_literal : List (List Lit) → Lit → ℕ → Lit
property_literal [] so_far v = so_far
property_literal (c ∷ cs) so_far v = property_literal cs (positive (v + length c)) (v + length c + 1)

-- how many gates these are
abbrev pub gate_count : List (List Lit) → ℕ
gate_count [] = 0
gate_count (c ∷ cs) = length c + 1 + gate_count cs

-- the first variable behind those of the circuit with further latches and gates
abbrev pub first_behind : Parts → List Latch → List Gate → ℕ
first_behind m ls gs = m.max_var + 1 + length ls + length gs

-- the circuit with further latches and gates, and with gates for the clauses, whose one bad literal denies that the literal
-- is 0 and all clauses are true
abbrev pub witness_parts : Parts → List Latch → List Gate → List (List Lit) → Lit → Parts
witness_parts m ls gs inv a =
    only_bad (extended m ls (gs ++ property_gates inv (negation a) (first_behind m ls gs)))
    (negation (property_literal inv (negation a) (first_behind m ls gs)))

-- the second circuit has the inputs and constraints of the first, and its latches and gates before others, which are the
-- further latches, and gates of which the further gates come first; its one bad literal is set exactly where the first's
-- literal is set or a clause is false
pub record IsWitness (m : Parts) (ls : List Latch) (gs : List Gate) (inv : List (List Lit)) (a : Lit) (w : Parts) : Type 0 where
  pub inputs : w.inputs ≡ m.inputs
  pub latches : w.latches ≡ m.latches ++ ls
  pub constraints : w.constraints ≡ m.constraints
  pub more : List Gate
  pub gates : w.gates ≡ m.gates ++ (gs ++ more)
  pub bad : Lit
  pub only : w.bad ≡ bad ∷ []
  pub exact : (v : Valuation) → Agrees w v → value_of v bad ≡ (value_of v a || not (are_true v inv))
