-- Which texts spell a file (AIGER 1.9, the binary layout).
use Rattle.std.specs.Prelude.{◌≡◌, ℕ, ◌-◌, ◌≤◌, ◌⊎◌, List, [], ◌∷◌, ◌++◌, decimal, codes, length, map, sum_by, ◌+◌, ◌/◌, ◌%◌, ◌<◌}
use Rattle.scan.specs.Lists.{IsCounts, Each}
use Rattle.graph.specs.declared.circuit.Latch.{Latch}
use Rattle.graph.specs.declared.circuit.Gate.{Gate}
use Rattle.graph.specs.declared.parts.Parts.{Parts}
use Rattle.graph.specs.Circuits.{HasReset, IsOrdered, justice_literals}
use Rattle.graph.specs.File.{File}
use Rattle.graph.specs.Symbols.{symbol_counts, AreSymbols}
use Rattle.aag.specs.Spelling.{IsCircuitLiteral, IsLiteralLine, IsSizeLine, counts_of}
use Rattle.aag.specs.Tail.{IsSymbolLine, IsComment}

-- a number in groups of seven bits, the lowest first, with the high bit set on all bytes but the last; the last of several
-- groups is not 0
abbrev pub IsDelta : List ℕ → ℕ → Type 0
IsDelta [] n = ⊥
IsDelta (c ∷ []) n = (n < 128) × (c ≡ n)
IsDelta (c ∷ d ∷ ds) n = (128 ≤ n) × (c ≡ 128 + n % 128) × IsDelta (d ∷ ds) (n / 128)

-- a latch's next literal with its reset, and without it
abbrev pub long_binary_latch : Latch → List ℕ
long_binary_latch l = decimal l.next.0 ++ 32 ∷ decimal l.reset.0 ++ 10 ∷ []

abbrev pub short_binary_latch : Latch → List ℕ
short_binary_latch l = decimal l.next.0 ++ 10 ∷ []

-- a latch without its literal; its reset may be left out where it is 0
pub record IsBinaryLatchLine (max : ℕ) (text : List ℕ) (l : Latch) : Type 0 where
  pub spells : (text ≡ long_binary_latch l) ⊎ ((l.reset.0 ≡ 0) × (text ≡ short_binary_latch l))
  pub next : IsCircuitLiteral max l.next
  pub reset : HasReset l

-- a gate by the difference of its left side and the first right side, and that of its right sides
-- (subtraction stops at 0, which is never reached so: SpellsOrdered asks beside it that the literals are ordered, each right side
-- at most what it is taken from)
pub record IsGateDeltas (text : List ℕ) (g : Gate) : Type 0 where
  pub first : List ℕ
  pub second : List ℕ
  pub spells : text ≡ first ++ second
  pub first_delta : IsDelta first (g.lhs.0 - g.rhs0.0)
  pub second_delta : IsDelta second (g.rhs0.0 - g.rhs1.0)

-- a header with the counts of ordered parts, nothing for the inputs, a line for each of the latches and of the used literals,
-- and the gates; the justice properties stand as all their sizes and then all their literals
pub record SpellsOrdered (text : List ℕ) (c : Parts) : Type 0 where
  pub head : List ℕ
  pub latches : List ℕ
  pub outputs : List ℕ
  pub bad : List ℕ
  pub constraints : List ℕ
  pub sizes : List ℕ
  pub justice : List ℕ
  pub fairness : List ℕ
  pub gates : List ℕ
  pub whole : text ≡ codes "aig " ++ decimal c.max_var ++ head ++ latches ++ outputs ++ bad ++ constraints ++ sizes ++ justice ++ fairness ++ gates
  pub max_var : c.max_var ≤ 4194303
  pub counts : IsCounts 4194303 head (counts_of c)
  pub ordered : IsOrdered c
  pub each_latch : Each (IsBinaryLatchLine c.max_var) latches c.latches
  pub each_output : Each (IsLiteralLine c.max_var) outputs c.outputs
  pub each_bad : Each (IsLiteralLine c.max_var) bad c.bad
  pub each_constraint : Each (IsLiteralLine c.max_var) constraints c.constraints
  pub each_size : Each IsSizeLine sizes (map length c.justice)
  pub each_justice : Each (IsLiteralLine c.max_var) justice (justice_literals c.justice)
  pub each_fairness : Each (IsLiteralLine c.max_var) fairness c.fairness
  pub each_gate : Each IsGateDeltas gates c.gates
  pub justice_room : sum_by length c.justice ≤ 4194303

-- a text of at most 67108864 bytes: a circuit whose literals are ordered, a line for each symbol, of something that is there
-- and no two of the same, and a comment or none
pub record SpellsBinary (text : List ℕ) (f : File) : Type 0 where
  pub circuit : List ℕ
  pub symbols : List ℕ
  pub comment : List ℕ
  pub whole : text ≡ circuit ++ symbols ++ comment
  pub short : length text ≤ 67108864
  pub spells_circuit : SpellsOrdered circuit f.model
  pub each_symbol : Each IsSymbolLine symbols f.symbols
  pub are_symbols : AreSymbols (symbol_counts f.model) f.symbols
  pub spells_comment : IsComment comment f.comment
