-- What a circuit says (AIGER 1.9, Biere, Heljanko, Wieringa 2011): the values of its literals, its properties, its runs, rounds of
-- justice, what it upholds, and the numbering of the binary layout.
use Rattle.std.specs.Prelude.{◌≡◌, ℕ, ◌+◌, ◌/◌, ◌%◌, Bool, true, false, not, ◌&&◌, ◌==◌, if◌then◌else◌, List, ◌++◌, map, length, slice_index_or, All, Contains, ◌<◌, ◌∷◌, slice_get, Some, decimal, [], ◌^◌, ◌≤◌, ◌*◌, ◌⊎◌, flat_map}
use Rattle.graph.specs.declared.circuit.Lit.{Lit}
use Rattle.graph.specs.declared.circuit.Gate.{Gate}
use Rattle.graph.specs.declared.parts.Parts.{Parts}
use Rattle.graph.specs.declared.circuit.Property.{Property}
use Rattle.graph.specs.declared.circuit.Property.TheVariants.{Bad, Justice, Output}
use Rattle.graph.specs.declared.circuit.Latch.{Latch}

-- a truth value for each variable, the constant's at place 0
abbrev pub Valuation : Type 0
Valuation = List Bool

-- the variable of a literal
abbrev pub variable : Lit → ℕ
variable a = a.0 / 2

-- the truth value of a variable
abbrev pub place : Valuation → ℕ → Bool
place w v = slice_index_or w v false

-- the truth value of a literal: its variable's, negated where the literal is odd
abbrev pub value_of : Valuation → Lit → Bool
value_of w a = if a.0 % 2 == 1 then not (place w (variable a)) else place w (variable a)

-- the variables that something defines: inputs, then latches, then gates
abbrev pub defined : Parts → List ℕ
defined m = map variable m.inputs ++ map (λ l. variable l.lit) m.latches ++ map (λ g. variable g.lhs) m.gates

-- a truth value for each variable up to the greatest; the constant and what nothing defines are false
pub record IsValuation (m : Parts) (w : Valuation) : Type 0 where
  pub places : length w ≡ m.max_var + 1
  pub constant : place w 0 ≡ false
  pub defined_only : (v : ℕ) → place w v ≡ true → Contains (defined m) v

-- the gate's left side is the conjunction of its right sides
abbrev pub Fires : Valuation → Gate → Type 0
Fires w g = value_of w g.lhs ≡ (value_of w g.rhs0 && value_of w g.rhs1)

-- a valuation in which every gate is the conjunction of its right sides
pub record Agrees (m : Parts) (w : Valuation) : Type 0 where
  pub valuation : IsValuation m w
  pub gates : All (Fires w) m.gates

-- the values of the latches, in their order
abbrev pub state_of : Parts → Valuation → List Bool
state_of m w = map (λ l. value_of w l.lit) m.latches

-- the values of the inputs, in their order
abbrev pub inputs_of : Parts → Valuation → List Bool
inputs_of m w = map (value_of w) m.inputs

-- b, j or o, and the position
abbrev pub property_text : Property → List ℕ
property_text (Bad n) = 98 ∷ decimal n
property_text (Justice n) = 106 ∷ decimal n
property_text (Output n) = 111 ∷ decimal n

-- the outputs are taken as bad literals: the circuit has no bad literal, constraint, justice property or fairness literal
pub record AreOutputsBad (m : Parts) : Type 0 where
  pub no_bad : length m.bad ≡ 0
  pub no_constraints : length m.constraints ≡ 0
  pub no_justice : length m.justice ≡ 0
  pub no_fairness : length m.fairness ≡ 0

-- the circuit has a property of this kind and position
abbrev pub HasProperty : Parts → Property → Type 0
HasProperty m (Bad n) = n < length m.bad
HasProperty m (Justice n) = n < length m.justice
HasProperty m (Output n) = AreOutputsBad m × (n < length m.outputs)

-- the literal that the property watches, which no run is to set: the n-th bad literal or, where the outputs are taken as
-- bad literals, the n-th output; a justice property watches none
abbrev pub IsWatched : Parts → Property → Lit → Type 0
IsWatched m (Bad n) a = slice_get m.bad n ≡ Some a
IsWatched m (Justice n) a = ⊥
IsWatched m (Output n) a = AreOutputsBad m × (slice_get m.outputs n ≡ Some a)

-- the position among the properties of its kind
abbrev pub position_of : Property → ℕ
position_of (Bad n) = n
position_of (Justice n) = n
position_of (Output n) = n

-- a latch that is reset to 0 or to 1 has that value
pub record IsReset (w : Valuation) (l : Latch) : Type 0 where
  pub low : l.reset.0 ≡ 0 → value_of w l.lit ≡ false
  pub high : l.reset.0 ≡ 1 → value_of w l.lit ≡ true

-- every latch has the value that it is reset to
abbrev pub IsInitial : Parts → Valuation → Type 0
IsInitial m w = All (IsReset w) m.latches

-- the next state: the values of the next literals
abbrev pub next_state : Parts → Valuation → List Bool
next_state m w = map (λ l. value_of w l.next) m.latches

-- each latch's value afterwards is that of its next literal before
abbrev pub IsStep : Parts → Valuation → Valuation → Type 0
IsStep m w x = state_of m x ≡ next_state m w

-- there is a first valuation, and it is initial
abbrev pub StartsInitial : Parts → List Valuation → Type 0
StartsInitial m [] = ⊥
StartsInitial m (w ∷ r) = IsInitial m w

-- each valuation steps to the next
abbrev pub Steps : Parts → List Valuation → Type 0
Steps m [] = Unit {0}
Steps m (w ∷ []) = Unit {0}
Steps m (w ∷ x ∷ r) = IsStep m w x × Steps m (x ∷ r)

-- agreeing valuations, one for each time, the first initial and neighbours in a step
pub record IsRun (m : Parts) (r : List Valuation) : Type 0 where
  pub agrees : All (Agrees m) r
  pub starts : StartsInitial m r
  pub steps : Steps m r

-- every constraint is true at every time, the last one too
abbrev pub KeepsConstraints : Parts → List Valuation → Type 0
KeepsConstraints m r = All (λ w. All (λ a. value_of w a ≡ true) m.constraints) r

-- no run that keeps the constraints sets the literal that the property watches at any time
abbrev pub IsSafe : Parts → Property → Type 0
IsSafe m p = (r : List Valuation) (a : Lit) → IsRun m r → KeepsConstraints m r → IsWatched m p a →
    All (λ w. value_of w a ≡ false) r

-- the literals of a justice property, then the fairness literals
abbrev pub wanted_of : Parts → ℕ → List Lit
wanted_of m j = slice_index_or m.justice j [] ++ m.fairness

-- the valuation at a time
abbrev pub at : List Valuation → ℕ → Valuation
at r t = slice_index_or r t []

-- the literal is set at some time from the first to before the end
abbrev pub IsSetWithin : List Valuation → ℕ → ℕ → Lit → Type 0
IsSetWithin r first end a = (t : ℕ) × (first ≤ t) × (t < end) × (value_of (at r t) a ≡ true)

-- a nonempty stretch of neighbouring times, in which each wanted literal is set
pub record IsRound (wanted : List Lit) (r : List Valuation) (first end : ℕ) : Type 0 where
  pub nonempty : first < end
  pub inside : end ≤ length r
  pub sets : All (IsSetWithin r first end) wanted

-- n rounds, one after the other, no two of which share a time
pub record HoldsRounds (wanted : List Lit) (r : List Valuation) (n : ℕ) : Type 0 where
  pub first : ℕ → ℕ
  pub end : ℕ → ℕ
  pub rounds : (k : ℕ) → k < n → IsRound wanted r (first k) (end k)
  pub apart : (k : ℕ) → k + 1 < n → end k ≤ first (k + 1)

-- No run that keeps the constraints holds more rounds than there are states. An infinite run sets each wanted
-- literal infinitely often exactly where some beginning of it holds n rounds, for every n: so there is none.
abbrev pub IsBounded : Parts → ℕ → Type 0
IsBounded m j = (r : List Valuation) (n : ℕ) → IsRun m r → KeepsConstraints m r → HoldsRounds (wanted_of m j) r n →
    n ≤ 2 ^ length m.latches

-- what a property's certificate shows: no run that keeps the constraints sets the literal that the property watches, or
-- holds more rounds of justice than there are states
abbrev pub IsUpheld : Parts → Property → Type 0
IsUpheld m (Bad n) = IsSafe m (Bad n)
IsUpheld m (Justice n) = IsBounded m n
IsUpheld m (Output n) = IsSafe m (Output n)

-- the literals that define something: inputs, latches and the gates' left sides
abbrev pub defining : Parts → List Lit
defining m = m.inputs ++ map (λ l. l.lit) m.latches ++ map (λ g. g.lhs) m.gates

-- the literals of all justice properties
abbrev pub justice_literals : List (List Lit) → List Lit
justice_literals properties = flat_map (λ lits. lits) properties

-- a reset is 0, 1 or the latch's own literal
abbrev pub HasReset : Latch → Type 0
HasReset l = (l.reset.0 ≡ 0) ⊎ (l.reset.0 ≡ 1) ⊎ (l.reset.0 ≡ l.lit.0)

-- the literals are those of the variables from first on
abbrev pub IsNumbered : ℕ → List Lit → Type 0
IsNumbered first lits = (k : ℕ) (d : Lit) → k < length lits → (slice_index_or lits k d).0 ≡ 2 * (first + k)

-- the gate's literals descend, the right sides below the left
abbrev pub IsDescending : Gate → Type 0
IsDescending g = (g.rhs0.0 < g.lhs.0) × (g.rhs1.0 ≤ g.rhs0.0)

-- the numbering of the binary layout: inputs, then latches, then gates have the literals 2, 4, 6 and so on, no variable
-- is left over, and each gate's literals descend
pub record IsOrdered (m : Parts) : Type 0 where
  pub all_defined : m.max_var ≡ length (defining m)
  pub numbered : IsNumbered 1 (defining m)
  pub descending : All IsDescending m.gates
