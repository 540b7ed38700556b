-- The clauses of a circuit and of the three kinds of cases of an invariant, in their order (Tseitin 1968).
--
-- n is the circuit's greatest variable, and o is how many variables come before those of the time in question: the
-- circuit's variable v is o + v, and o + n + 1 is true.
use Rattle.std.specs.Prelude.{ℕ, ◌+◌, ◌-◌, ◌%◌, ◌==◌, Bool, true, false, not, if◌then◌else◌, List, [], ◌∷◌, ◌++◌, map, flat_map, ℤ, pos, neg_ℤ}
use Rattle.graph.specs.declared.circuit.Lit.{Lit}
use Rattle.graph.specs.declared.circuit.Latch.{Latch}
use Rattle.graph.specs.declared.circuit.Gate.{Gate}
use Rattle.graph.specs.declared.parts.Parts.{Parts}
use Rattle.graph.specs.Circuits.{variable}
use Rattle.lrat.specs.Shared.{unit_clauses}
use Rattle.lrat.specs.declared.gate_literals.GateLiterals.{GateLiterals}

-- a variable, or its negation
abbrev pub signed : Bool → ℕ → ℤ
signed true v = neg_ℤ (pos v)
signed false v = pos v

-- whether a literal is its variable's negation
abbrev pub is_negated : Lit → Bool
is_negated a = a.0 % 2 == 1

-- the literal of clauses for a literal of the circuit: the constant is the negation of what is true
abbrev pub literal : ℕ → ℕ → Lit → ℤ
literal n o a = if variable a == 0 then signed (not (is_negated a)) (o + n + 1) else signed (is_negated a) (o + variable a)

-- its negation
abbrev pub denial : ℕ → ℕ → Lit → ℤ
denial n o a = if variable a == 0 then signed (is_negated a) (o + n + 1) else signed (not (is_negated a)) (o + variable a)

-- the time's own variable is true
abbrev pub truth_clause : ℕ → ℕ → List ℤ
truth_clause n o = pos (o + n + 1) ∷ []

-- a gate's left side is the conjunction of its right sides
abbrev pub gate_clauses : ℕ → ℕ → Gate → List (List ℤ)
gate_clauses n o g =
    (denial n o g.lhs ∷ literal n o g.rhs0 ∷ []) ∷ (denial n o g.lhs ∷ literal n o g.rhs1 ∷ [])
    ∷ (literal n o g.lhs ∷ denial n o g.rhs0 ∷ denial n o g.rhs1 ∷ []) ∷ []

-- the literals of a gate
abbrev pub gate_at : ℕ → ℕ → Gate → GateLiterals
gate_at n o g = record { output = literal n o g.lhs; left = literal n o g.rhs0; right = literal n o g.rhs1 }

-- those of a circuit's gates at a first time
abbrev pub gates_at : Parts → List GateLiterals
gates_at m = map (gate_at m.max_var 0) m.gates

-- the unit of the value that a latch is reset to, if it is reset to one
abbrev pub reset_clauses : ℕ → ℕ → Latch → List (List ℤ)
reset_clauses n o l =
    if l.reset.0 == 0 then (denial n o l.lit ∷ []) ∷ [] else (if l.reset.0 == 1 then (literal n o l.lit ∷ []) ∷ [] else [])

-- truth and gates of one time
abbrev pub frame_at : Parts → ℕ → List (List ℤ)
frame_at m o = truth_clause m.max_var o ∷ flat_map (gate_clauses m.max_var o) m.gates

-- truth, gates and constraints of one time
abbrev pub time_clauses : Parts → ℕ → List (List ℤ)
time_clauses m o = frame_at m o ++ unit_clauses (map (literal m.max_var o) m.constraints)

abbrev pub frame_clauses : Parts → List (List ℤ)
frame_clauses m = frame_at m 0

-- what all initial cases begin with
abbrev pub start_clauses : Parts → List (List ℤ)
start_clauses m = truth_clause m.max_var 0 ∷ flat_map (reset_clauses m.max_var 0) m.latches

-- the units of an initial case: each literal of the clause is denied
abbrev pub init_units : Parts → List Lit → List ℤ
init_units m c = map (denial m.max_var 0) c

abbrev pub init_clauses : Parts → List Lit → List (List ℤ)
init_clauses m c = start_clauses m ++ unit_clauses (init_units m c)

-- what all step and bad cases of an invariant begin with
abbrev pub shared_clauses : Parts → List (List Lit) → List (List ℤ)
shared_clauses m inv = time_clauses m 0 ++ map (map (literal m.max_var 0)) inv

-- the literal, or its negation
abbrev pub along : Bool → Lit → Lit
along true a = if is_negated a then record { 0 = a.0 - 1 } else record { 0 = a.0 + 1 }
along false a = a

-- a latch's literal with the latch replaced by its next literal
abbrev pub next_of : List Latch → Lit → Lit
next_of [] a = a
next_of (l ∷ ls) a = if variable l.lit == variable a then along (is_negated a) l.next else next_of ls a

-- the units of a step case: each literal of the clause is denied, with its latch replaced by that latch's next literal
abbrev pub step_units : Parts → List Lit → List ℤ
step_units m c = map (λ a. denial m.max_var 0 (next_of m.latches a)) c

abbrev pub step_clauses : Parts → List (List Lit) → List Lit → List (List ℤ)
step_clauses m inv c = shared_clauses m inv ++ unit_clauses (step_units m c)

-- the unit of a bad case
abbrev pub bad_units : Parts → Lit → List ℤ
bad_units m a = literal m.max_var 0 a ∷ []

abbrev pub bad_clauses : Parts → List (List Lit) → Lit → List (List ℤ)
bad_clauses m inv a = shared_clauses m inv ++ unit_clauses (bad_units m a)
