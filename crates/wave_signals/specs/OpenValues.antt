-- Values that may be open: one time of a circuit in three values.
use Rattle.std.specs.Prelude.{◌≡◌, ℕ, ◌<◌, ◌%◌, Bool, true, false, not, ◌&&◌, ◌==◌, if◌then◌else◌, List, length, Option, None, Some, slice_index_or}
use Rattle.graph.specs.declared.circuit.Lit.{Lit}
use Rattle.graph.specs.declared.circuit.Gate.{Gate}
use Rattle.graph.specs.declared.circuit.Latch.{Latch}
use Rattle.graph.specs.Circuits.{Valuation, place, variable}
use Rattle.witness.specs.Completions.{Keeps}

-- the value of a variable, where it is known
abbrev pub open_place : List (Option Bool) → ℕ → Option Bool
open_place values v = slice_index_or values v None

-- the negation: open where the value is
abbrev pub open_not : Option Bool → Option Bool
open_not None = None
open_not (Some a) = Some (not a)

-- the conjunction: false where one value is, and else open where one is
abbrev pub open_and : Option Bool → Option Bool → Option Bool
open_and None None = None
open_and None (Some b) = if b then None else Some false
open_and (Some a) None = if a then None else Some false
open_and (Some a) (Some b) = Some (a && b)

-- the value of a literal
abbrev pub open_value_of : List (Option Bool) → Lit → Option Bool
open_value_of values a = if a.0 % 2 == 1 then open_not (open_place values (variable a)) else open_place values (variable a)

-- the value that a latch begins with, where its reset tells
abbrev pub open_reset : Latch → Option Bool
open_reset l = if l.reset.0 == 0 then Some false else (if l.reset.0 == 1 then Some true else None)

-- the value that a latch begins with: the one that is given, or else that of its reset
abbrev pub open_first : Latch → Option Bool → Option Bool
open_first l None = open_reset l
open_first l (Some given) = Some given

-- the gate's left side is the conjunction of its right sides
abbrev pub OpenFires : List (Option Bool) → Gate → Type 0
OpenFires values g = open_value_of values g.lhs ≡ open_and (open_value_of values g.rhs0) (open_value_of values g.rhs1)

-- each value that is known is that of the valuation
abbrev pub Stand : List (Option Bool) → Valuation → Type 0
Stand values w = (v : ℕ) → Keeps (open_place values v) (place w v)

-- each value that is given is that of the variable of its literal
abbrev pub AreGiven : List Lit → List (Option Bool) → Valuation → Type 0
AreGiven lits given w = (k : ℕ) (d : Lit) → k < length lits → Keeps (open_place given k) (place w (variable (slice_index_or lits k d)))
