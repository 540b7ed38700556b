-- How a circuit's variables are carried over to the gates that are made.
use Rattle.std.specs.Prelude.{◌≡◌, ℕ, ◌+◌, ◌-◌, ◌*◌, ◌%◌, ◌<◌, ◌≤◌, ◌⊎◌, ◌==◌, if◌then◌else◌, nat_le, List, ◌++◌, map, length, slice_index_or, Contains}
use Rattle.graph.specs.declared.circuit.Lit.{Lit}
use Rattle.graph.specs.declared.circuit.Gate.{Gate}
use Rattle.graph.specs.declared.circuit.Latch.{Latch}
use Rattle.graph.specs.declared.parts.Parts.{Parts}
use Rattle.graph.specs.Circuits.{Valuation, variable, place, value_of, Agrees}
use Rattle.graph.specs.WellFormed.{gate_in}
use Rattle.shrink.specs.Making.{Follows}

-- the negation of a literal
abbrev pub turned : Lit → Lit
turned a = if a.0 % 2 == 1 then record { 0 = a.0 - 1 } else record { 0 = a.0 + 1 }

-- the literal that a variable is carried to
abbrev pub image_of : List Lit → ℕ → Lit
image_of image v = slice_index_or image v (record { 0 = 0 })

-- the literal that a literal is carried to
abbrev pub renamed : List Lit → Lit → Lit
renamed image a = if a.0 % 2 == 1 then turned (image_of image (variable a)) else image_of image (variable a)

-- the constant, or the variable of an input or a latch
abbrev pub IsBase : Parts → ℕ → Type 0
IsBase m v = (v ≡ 0) ⊎ Contains (map variable m.inputs ++ map (λ l. variable l.lit) m.latches) v

abbrev pub no_gate : Gate
no_gate = record { lhs = record { 0 = 0 }; rhs0 = record { 0 = 0 }; rhs1 = record { 0 = 0 } }

-- the variable is carried over once n gates of the order are
abbrev pub IsCarried : Parts → List ℕ → ℕ → ℕ → Type 0
IsCarried m order n v = IsBase m v ⊎ ((k : ℕ) × (k < n) × (variable (gate_in m.gates order k no_gate).lhs ≡ v))

-- inputs, latches and the constant have the values of what they are carried to
abbrev pub BeginSame : Parts → List Lit → Valuation → Valuation → Type 0
BeginSame m image w x = (v : ℕ) → IsBase m v → place w v ≡ value_of x (image_of image v)

-- the first n gates of the order are carried over
pub record AreCarried (m : Parts) (order : List ℕ) (first : ℕ) (begin : List Lit) (gs : List Gate) (image : List Lit) (n : ℕ) : Type 0 where
  pub whole : length image ≡ m.max_var + 1
  pub kept : (v : ℕ) → IsBase m v → image_of image v ≡ image_of begin v
  pub few : length gs ≤ n
  pub below : (v : ℕ) → IsCarried m order n v → (image_of image v).0 < 2 * (first + length gs)
  pub same : (w x : Valuation) → Agrees m w → Follows gs x → BeginSame m begin w x → (v : ℕ) → IsCarried m order n v → place w v ≡ value_of x (image_of image v)

-- the literals of inputs and latches, in their order
abbrev pub bases : Parts → List Lit
bases m = m.inputs ++ map (λ l. l.lit) m.latches

-- the k-th of the literals is carried to the literal of variable k + 1, and the constant to itself
pub record AreNumbered (bases : List Lit) (image : List Lit) : Type 0 where
  pub constant : image_of image 0 ≡ record { 0 = 0 }
  pub each : (k : ℕ) (d : Lit) → k < length bases → image_of image (variable (slice_index_or bases k d)) ≡ record { 0 = 2 * (1 + k) }

-- a latch with its literals carried over; a reset that is no constant is its own literal
abbrev pub carried_latch : List Lit → Latch → Latch
carried_latch image l = record {
  lit = renamed image l.lit;
  next = renamed image l.next;
  reset = if nat_le l.reset.0 1 then l.reset else renamed image l.lit;
}

-- the circuit with its literals carried over to these gates
abbrev pub carried_parts : Parts → List Lit → List Gate → Parts
carried_parts m image gs = record {
  max_var = length m.inputs + length m.latches + length gs;
  inputs = map (renamed image) m.inputs;
  latches = map (carried_latch image) m.latches;
  outputs = map (renamed image) m.outputs;
  bad = map (renamed image) m.bad;
  constraints = map (renamed image) m.constraints;
  justice = map (map (renamed image)) m.justice;
  fairness = map (renamed image) m.fairness;
  gates = gs;
}
