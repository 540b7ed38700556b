-- Why a witness circuit is not made: numbers, places and causes.
use Rattle.std.specs.Prelude.{◌≡◌, ℕ, ◌+◌, ◌<◌, List, [], length, get_or}
use Rattle.graph.specs.declared.circuit.Lit.{Lit}
use Rattle.graph.specs.declared.circuit.Latch.{Latch}
use Rattle.graph.specs.declared.circuit.Gate.{Gate}
use Rattle.graph.specs.declared.circuit.Property.{Property}
use Rattle.graph.specs.declared.parts.Parts.{Parts}
use Rattle.graph.specs.Circuits.{IsWatched, position_of}
use Rattle.graph.specs.Refusals as circuits
use Rattle.extension.specs.Extended.{extended}
use Rattle.extension.specs.Inductive.{IsOverAll}
use Rattle.witness_circuits.specs.declared.error.MakeError.{MakeError}
use Rattle.witness_circuits.specs.declared.error.MakeError.TheVariants.{NoProperty, Limit, Outside, Circuit, OutOfMemory, Name}
use Rattle.witness_circuits.specs.Witnesses.{gate_count}

abbrev pub number_of : MakeError → ℕ
number_of (NoProperty n) = 30
number_of Limit = 4
number_of (Outside k) = 55
number_of (Circuit e) = circuits.number_of e
number_of (OutOfMemory refused) = 20
number_of Name = 20

abbrev pub place_of : MakeError → ℕ
place_of (NoProperty n) = n
place_of Limit = 0
place_of (Outside k) = k
place_of (Circuit e) = circuits.place_of e
place_of (OutOfMemory refused) = 0
place_of Name = 0

-- the clause at the position is not over the circuit with the latches and gates
pub record IsOutside (m : Parts) (inv : List (List Lit)) (k : ℕ) : Type 0 where
  pub inside : k < length inv
  pub outside : IsOverAll m (get_or inv k []) → ⊥

-- the circuit is not made for another reason
abbrev pub IsUnmade : MakeError → Type 0
IsUnmade (NoProperty n) = ⊥
IsUnmade Limit = ⊥
IsUnmade (Outside k) = ⊥
IsUnmade (Circuit e) = Unit {0}
IsUnmade (OutOfMemory refused) = Unit {0}
IsUnmade Name = Unit {0}

-- the variables of the circuit, of the latches and gates, and of the gates for the clauses
abbrev pub size_of : Parts → List Latch → List Gate → List (List Lit) → ℕ
size_of m ls gs inv = m.max_var + length ls + length gs + gate_count inv

-- the property is not there; or there are too many variables; or a clause is not over the circuit
abbrev pub HasCause : Parts → Property → List Latch → List Gate → List (List Lit) → MakeError → Type 0
HasCause m p ls gs inv (NoProperty n) = (n ≡ position_of p) × ((a : Lit) → IsWatched m p a → ⊥)
HasCause m p ls gs inv Limit = 4194303 < size_of m ls gs inv
HasCause m p ls gs inv (Outside k) = IsOutside (extended m ls gs) inv k
HasCause m p ls gs inv (Circuit e) = Unit {0}
HasCause m p ls gs inv (OutOfMemory refused) = Unit {0}
HasCause m p ls gs inv Name = Unit {0}
