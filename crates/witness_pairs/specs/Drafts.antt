-- Circuits that are made of inputs and gates, one after another, and other circuits at one time in them.
use Rattle.std.specs.Prelude.{◌≡◌, Bool, true, false, not, ◌&&◌, List, [], ◌∷◌, ◌++◌, map, All}
use Rattle.graph.specs.declared.circuit.Lit.{Lit}
use Rattle.graph.specs.declared.circuit.Gate.{Gate}
use Rattle.graph.specs.Circuits.{Valuation, place, value_of, Fires}
use Rattle.witness_circuits.specs.declared.error.MakeError.{MakeError}
use Rattle.witness_circuits.specs.declared.error.MakeError.TheVariants.{NoProperty, Limit, Outside, Circuit, OutOfMemory, Name}

-- a valuation that follows the gates
pub record Follows (gs : List Gate) (x : Valuation) : Type 0 where
  pub constant : place x 0 ≡ false
  pub fires : All (Fires x) gs

-- gates that go on
abbrev pub GoesOn : List Gate → List Gate → Type 0
GoesOn before after = (more : List Gate) × (after ≡ before ++ more)

-- the two values are the same
abbrev pub same : Bool → Bool → Bool
same true c = c
same false c = not c

-- all of the literals are true
abbrev pub all_true : Valuation → List Lit → Bool
all_true x [] = true
all_true x (a ∷ lits) = value_of x a && all_true x lits

-- the valuation of a circuit whose variables are these literals
abbrev pub seen : List Lit → Valuation → Valuation
seen names x = map (value_of x) names

-- the circuit would have too many variables, or is not made for a reason of its own
abbrev pub IsUnasked : MakeError → Type 0
IsUnasked (NoProperty n) = ⊥
IsUnasked Limit = Unit {0}
IsUnasked (Outside k) = ⊥
IsUnasked (Circuit e) = Unit {0}
IsUnasked (OutOfMemory refused) = Unit {0}
IsUnasked Name = ⊥
