-- Which texts spell a circuit (AIGER 1.9).
use Rattle.std.specs.Prelude.{◌≡◌, ℕ, ◌+◌, ◌*◌, ◌%◌, ◌≤◌, ◌⊎◌, List, [], ◌∷◌, ◌++◌, decimal, codes, length, map, sum_by}
use Rattle.scan.specs.Lists.{IsCounts, Each}
use Rattle.graph.specs.declared.circuit.Lit.{Lit}
use Rattle.graph.specs.declared.circuit.Latch.{Latch}
use Rattle.graph.specs.declared.circuit.Gate.{Gate}
use Rattle.graph.specs.declared.parts.Parts.{Parts}
use Rattle.graph.specs.Circuits.{HasReset, justice_literals}

-- a literal of a variable up to max
abbrev pub IsCircuitLiteral : ℕ → Lit → Type 0
IsCircuitLiteral max a = a.0 ≤ 2 * max + 1

-- a literal that can define its variable: not negated, and not the constant
pub record IsDefining (max : ℕ) (a : Lit) : Type 0 where
  pub literal : IsCircuitLiteral max a
  pub even : a.0 % 2 ≡ 0
  pub least : 2 ≤ a.0

-- a number on a line of its own
abbrev pub IsSizeLine : List ℕ → ℕ → Type 0
IsSizeLine text n = text ≡ decimal n ++ 10 ∷ []

pub record IsInputLine (max : ℕ) (text : List ℕ) (a : Lit) : Type 0 where
  pub spells : text ≡ decimal a.0 ++ 10 ∷ []
  pub input : IsDefining max a

pub record IsLiteralLine (max : ℕ) (text : List ℕ) (a : Lit) : Type 0 where
  pub spells : text ≡ decimal a.0 ++ 10 ∷ []
  pub literal : IsCircuitLiteral max a

-- a latch with its reset, and without it
abbrev pub long_latch : Latch → List ℕ
long_latch l = decimal l.lit.0 ++ 32 ∷ decimal l.next.0 ++ 32 ∷ decimal l.reset.0 ++ 10 ∷ []

abbrev pub short_latch : Latch → List ℕ
short_latch l = decimal l.lit.0 ++ 32 ∷ decimal l.next.0 ++ 10 ∷ []

-- a latch, whose reset may be left out where it is 0
pub record IsLatchLine (max : ℕ) (text : List ℕ) (l : Latch) : Type 0 where
  pub spells : (text ≡ long_latch l) ⊎ ((l.reset.0 ≡ 0) × (text ≡ short_latch l))
  pub latch : IsDefining max l.lit
  pub next : IsCircuitLiteral max l.next
  pub reset : HasReset l

pub record IsGateLine (max : ℕ) (text : List ℕ) (g : Gate) : Type 0 where
  pub spells : text ≡ decimal g.lhs.0 ++ 32 ∷ decimal g.rhs0.0 ++ 32 ∷ decimal g.rhs1.0 ++ 10 ∷ []
  pub gate : IsDefining max g.lhs
  pub left : IsCircuitLiteral max g.rhs0
  pub right : IsCircuitLiteral max g.rhs1

-- how many there are of each kind, in the order of a header
abbrev pub counts_of : Parts → List ℕ
counts_of c =
    length c.inputs ∷ length c.latches ∷ length c.outputs ∷ length c.gates
    ∷ length c.bad ∷ length c.constraints ∷ length c.justice ∷ length c.fairness ∷ []

-- a header with the counts of the parts, and a line for each of them; the justice properties stand as all their sizes and
-- then all their literals
pub record SpellsCircuit (text : List ℕ) (c : Parts) : Type 0 where
  pub head : List ℕ
  pub inputs : List ℕ
  pub latches : List ℕ
  pub outputs : List ℕ
  pub bad : List ℕ
  pub constraints : List ℕ
  pub sizes : List ℕ
  pub justice : List ℕ
  pub fairness : List ℕ
  pub gates : List ℕ
  pub whole : text ≡ codes "aag " ++ decimal c.max_var ++ head ++ inputs ++ latches ++ outputs ++ bad ++ constraints ++ sizes ++ justice ++ fairness ++ gates
  pub max_var : c.max_var ≤ 4194303
  pub counts : IsCounts 4194303 head (counts_of c)
  pub each_input : Each (IsInputLine c.max_var) inputs c.inputs
  pub each_latch : Each (IsLatchLine c.max_var) latches c.latches
  pub each_output : Each (IsLiteralLine c.max_var) outputs c.outputs
  pub each_bad : Each (IsLiteralLine c.max_var) bad c.bad
  pub each_constraint : Each (IsLiteralLine c.max_var) constraints c.constraints
  pub each_size : Each IsSizeLine sizes (map length c.justice)
  pub each_justice : Each (IsLiteralLine c.max_var) justice (justice_literals c.justice)
  pub each_fairness : Each (IsLiteralLine c.max_var) fairness c.fairness
  pub each_gate : Each (IsGateLine c.max_var) gates c.gates
  pub room : length c.inputs + length c.latches + length c.gates ≤ c.max_var
  pub justice_room : sum_by length c.justice ≤ 4194303
