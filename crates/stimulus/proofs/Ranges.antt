-- The literals of a well-formed circuit are in range.
use Rattle.std.proofs.Common.{ℕ, zero, suc, ◌+◌, ◌*◌, ◌<◌, ◌≤◌, List, [], ◌∷◌, ◌++◌, length, map, get_or, All, arith}
use Rattle.std.proofs.lemmas.List.Elements.{All-append}
use Rattle.graph.specs.declared.circuit.Lit.{Lit}
use Rattle.graph.specs.declared.parts.Parts.{Parts}
use Rattle.graph.specs.Circuits.{variable, justice_literals, wanted_of}
use Rattle.graph.specs.WellFormed.{IsWellFormed}
use Rattle.graph.proofs.Evaluation.{All-left, All-right, used_outside}

-- of one of the circuit's variables
abbrev InRange : Parts → Lit → Type 0
InRange m a = a.0 ≤ 2 * m.max_var + 1

abbrev before_bad : Parts → List Lit
before_bad m = map (λ l. l.next) m.latches ++ m.outputs

abbrev before_constraints : Parts → List Lit
before_constraints m = before_bad m ++ m.bad

abbrev before_justice : Parts → List Lit
before_justice m = before_constraints m ++ m.constraints

abbrev before_fairness : Parts → List Lit
before_fairness m = before_justice m ++ justice_literals m.justice

outside : (m : Parts) → IsWellFormed m → All (InRange m) (used_outside m)
outside m h = All-left (InRange m) (used_outside m) (map (λ g. g.rhs0) m.gates)
    (All-left (InRange m) (used_outside m ++ map (λ g. g.rhs0) m.gates) (map (λ g. g.rhs1) m.gates) h.used_in_range)

up_to_justice : (m : Parts) → IsWellFormed m → All (InRange m) (before_fairness m)
up_to_justice m h = All-left (InRange m) (before_fairness m) m.fairness (outside m h)

up_to_constraints : (m : Parts) → IsWellFormed m → All (InRange m) (before_justice m)
up_to_constraints m h = All-left (InRange m) (before_justice m) (justice_literals m.justice) (up_to_justice m h)

pub constraints_in_range : (m : Parts) → IsWellFormed m → All (λ a. variable a ≤ m.max_var) m.constraints
constraints_in_range m h k d k_in = let p = All-right (InRange m) (before_constraints m) m.constraints (up_to_constraints m h) k d k_in in omega (arith, p)

pub outputs_in_range : (m : Parts) → IsWellFormed m → All (λ a. variable a ≤ m.max_var) m.outputs
outputs_in_range m h k d k_in =
    let bad = All-left (InRange m) (before_constraints m) m.constraints (up_to_constraints m h) in
    let p = All-right (InRange m) (map (λ l. l.next) m.latches) m.outputs (All-left (InRange m) (before_bad m) m.bad bad) k d k_in in
    omega (arith, p)

pub bad_in_range : (m : Parts) → IsWellFormed m → All (λ a. variable a ≤ m.max_var) m.bad
bad_in_range m h k d k_in =
    let p = All-right (InRange m) (before_bad m) m.bad (All-left (InRange m) (before_constraints m) m.constraints (up_to_constraints m h)) k d k_in in
    omega (arith, p)

all_piece : (P : Lit → Type 0) (lists : List (List Lit)) (j : ℕ) → All P (justice_literals lists) → j < length lists → All P (get_or lists j [])
all_piece P [] j h j_in = absurd (omega (arith, j_in))
all_piece P (l ∷ lists) zero h j_in = All-left P l (justice_literals lists) h
all_piece P (l ∷ lists) (suc j) h j_in = all_piece P lists j (All-right P l (justice_literals lists) h) (omega (arith, j_in))

pub wanted_in_range : (m : Parts) (j : ℕ) → IsWellFormed m → j < length m.justice → All (λ a. variable a ≤ m.max_var) (wanted_of m j)
wanted_in_range m j h j_in k d k_in =
    let justice = all_piece (InRange m) m.justice j (All-right (InRange m) (before_justice m) (justice_literals m.justice) (up_to_justice m h)) j_in in
    let p = All-append (InRange m) (get_or m.justice j []) m.fairness justice (All-right (InRange m) (before_fairness m) m.fairness (outside m h)) k d k_in in
    omega (arith, p)
