-- What stands for the literals of a witness circuit.
use Rattle.std.specs.Prelude.{◌%◌, ◌==◌, if◌then◌else◌, List, [], ◌∷◌, map, get_or}
use Rattle.graph.specs.declared.circuit.Lit.{Lit}
use Rattle.graph.specs.declared.circuit.Latch.{Latch}
use Rattle.graph.specs.declared.circuit.Gate.{Gate}
use Rattle.graph.specs.Circuits.{variable}
use Rattle.live_safe.specs.Shadow.{negation}

-- the literal for the variable, or false behind the last one; negated where the literal is
abbrev pub renamed : List Lit → Lit → Lit
renamed names a =
    if a.0 % 2 == 1 then negation (get_or names (variable a) (record { 0 = 0 })) else get_or names (variable a) (record { 0 = 0 })

abbrev pub renamed_latch : List Lit → Latch → Latch
renamed_latch names l = record { lit = renamed names l.lit; next = renamed names l.next; reset = renamed names l.reset }

abbrev pub renamed_gate : List Lit → Gate → Gate
renamed_gate names g = record { lhs = renamed names g.lhs; rhs0 = renamed names g.rhs0; rhs1 = renamed names g.rhs1 }

-- the bad literal is 0, and each constraint is 1: a clause of one literal for each
abbrev pub wanted_clauses : List Lit → Lit → List Lit → List (List Lit)
wanted_clauses names bad constraints = (negation (renamed names bad) ∷ []) ∷ map (λ a. renamed names a ∷ []) constraints
