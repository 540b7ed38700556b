-- Lines and formulas without zeros and in the limits.
use Rattle.std.specs.Prelude.{◌≢◌, ℕ, ◌<◌, length, All, ℤ, pos, unsigned_abs}
use Rattle.lrat.specs.Literals.{IsLiteral}
use Rattle.lrat.specs.declared.formula.Formula.{Formula}
use Rattle.lrat.specs.declared.line.Line.{Line}
use Rattle.lrat.specs.declared.line.Line.TheVariants.{Add, Delete}

-- an id of a clause: not 0 and below 2 ^ 32
abbrev pub IsId : ℕ → Type 0
IsId n = (0 < n) × (n < 4294967296)

-- an id or its negation
abbrev pub IsHint : ℤ → Type 0
IsHint h = (h ≢ pos 0) × (unsigned_abs h < 4294967296)

-- a line without zeros and in the limits: variables are below 2 ^ 31
abbrev pub IsLine : Line → Type 0
IsLine (Add id c hints) = IsId id × All (IsLiteral 2147483647) c × All IsHint hints
IsLine (Delete id ids) = IsId id × All IsId ids

-- literals are not 0 and in range, and counts are in the limits
pub record IsFormula (f : Formula) : Type 0 where
  pub are_literals : All (λ c. All (IsLiteral f.vars) c) f.clauses
  pub small : f.vars < 2147483648
  pub few : length f.clauses < 4294967296
