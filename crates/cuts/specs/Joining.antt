-- How a gate's cut is made of cuts of its right sides.
use Rattle.std.specs.Prelude.{◌≡◌, ℕ, ◌%◌, ◌<◌, ◌==◌, ◌&&◌, ◌⊎◌, Bool, false, not, if◌then◌else◌, List}
use Rattle.graph.specs.declared.circuit.Lit.{Lit}
use Rattle.graph.specs.declared.circuit.Gate.{Gate}
use Rattle.graph.specs.Circuits.{Valuation, variable, place}
use Rattle.truth_tables.specs.Tables.{value}
use Rattle.cuts.specs.declared.cut.Cut.{Cut}
use Rattle.cuts.specs.Cuts.{cut_at, cut_value, IsLeaf}

-- four variables
abbrev pub Leaves : Type 0
Leaves = ℕ × ℕ × ℕ × ℕ

-- the cut that has the variable itself as its one leaf
abbrev pub trivial : ℕ → Cut
trivial v = record { table = 43690; leaves = (v, 0, 0, 0) }

-- the value of the function, for the values of these variables
abbrev pub value_over : Valuation → Leaves → ℕ → Bool
value_over w l t = value t (place w l.0) (place w l.1) (place w l.2) (place w l.3)

-- the value of a literal whose variable has this cut
abbrev pub side_of : Valuation → Lit → Cut → Bool
side_of w a c = if a.0 % 2 == 1 then not (cut_value w c) else cut_value w c

-- the variable is the constant or one of the four
abbrev pub IsAmong : Leaves → ℕ → Type 0
IsAmong l u = (u ≡ 0) ⊎ (l.0 ≡ u) ⊎ (l.1 ≡ u) ⊎ (l.2 ≡ u) ⊎ (l.3 ≡ u)

-- each of the others is the constant or one of the four
abbrev pub AreAmong : Leaves → Leaves → Type 0
AreAmong l others = (u : ℕ) → IsAmong others u → IsAmong l u

-- the new variables are the old ones and this one
pub record Adds (old : Leaves) (v : ℕ) (new : Leaves) : Type 0 where
  pub added : IsAmong new v
  pub kept : AreAmong new old
  pub only : (u : ℕ) → IsAmong new u → IsAmong old u ⊎ (v ≡ u)

-- the variables are those of both
pub record IsUnion (one other l : Leaves) : Type 0 where
  pub first : AreAmong l one
  pub second : AreAmong l other
  pub only : (u : ℕ) → IsAmong l u → IsAmong one u ⊎ IsAmong other u

-- the cut's value is the conjunction of the right sides' values by their cuts, and its leaves are theirs
pub record IsJoined (g : Gate) (one other c : Cut) : Type 0 where
  pub value : (w : Valuation) → place w 0 ≡ false → cut_value w c ≡ (side_of w g.rhs0 one && side_of w g.rhs1 other)
  pub leaves : (u : ℕ) → IsLeaf c u → (u ≡ 0) ⊎ IsLeaf one u ⊎ IsLeaf other u

-- each leaf is below this bound
abbrev pub IsInside : ℕ → Cut → Type 0
IsInside n c = (u : ℕ) → IsLeaf c u → u < n

-- the variable's cut in the table, or the variable itself
abbrev pub IsSide : List Cut → ℕ → Cut → Type 0
IsSide cuts v c = (c ≡ trivial v) ⊎ (c ≡ cut_at cuts v)

-- a cut of the gate, made of such cuts of its right sides
abbrev pub IsChosen : List Cut → Gate → Cut → Type 0
IsChosen cuts g c = (one : Cut) × (other : Cut) × IsSide cuts (variable g.rhs0) one × IsSide cuts (variable g.rhs1) other × IsJoined g one other c
