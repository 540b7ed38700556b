-- The gates that are made one after another, and the table of their right sides.
use Rattle.std.specs.Prelude.{◌≡◌, ℕ, ◌+◌, ◌*◌, ◌<◌, ◌≤◌, ◌&&◌, ◌==◌, Bool, false, List, ◌++◌, length, slice_index_or, All, Option, Some}
use Rattle.graph.specs.declared.circuit.Lit.{Lit}
use Rattle.graph.specs.declared.circuit.Gate.{Gate}
use Rattle.graph.specs.Circuits.{Valuation, place, value_of, Fires}
use Rattle.shrink.specs.Shrunk.{IsProper}

-- the numbers of the right sides
abbrev pub sides : Gate → ℕ × ℕ
sides g = (g.rhs0.0, g.rhs1.0)

abbrev pub same_sides : ℕ × ℕ → ℕ × ℕ → Bool
same_sides p q = (p.0 == q.0) && (p.1 == q.1)

-- a gate that may stand at place k: it has the next literal, and lesser ones on its right
pub record IsMadeAt (first k : ℕ) (g : Gate) : Type 0 where
  pub numbered : g.lhs.0 ≡ 2 * (first + k)
  pub below : g.rhs0.0 < g.lhs.0
  pub descends : g.rhs1.0 ≤ g.rhs0.0
  pub proper : IsProper g

-- the gates have the variables from first on
abbrev pub AreMade : ℕ → List Gate → Type 0
AreMade first gs = (k : ℕ) (d : Gate) → k < length gs → IsMadeAt first k (slice_index_or gs k d)

-- a valuation that follows the gates
pub record Follows (gs : List Gate) (x : Valuation) : Type 0 where
  pub constant : place x 0 ≡ false
  pub fires : All (Fires x) gs

-- what the table says of right sides: the variable of the gate that has them
pub record IsTable (first : ℕ) (gs : List Gate) (find : ℕ × ℕ → Option ℕ) : Type 0 where
  pub found : (k : ℕ) (d : Gate) → k < length gs → find (sides (slice_index_or gs k d)) ≡ Some (first + k)
  pub sound : (p : ℕ × ℕ) (v : ℕ) → find p ≡ Some v → (k : ℕ) × (k < length gs) × (v ≡ first + k) × ((d : Gate) → sides (slice_index_or gs k d) ≡ p)

-- the literal is the conjunction in every valuation that follows the gates
abbrev pub IsConjunction : List Gate → Lit → Lit → Lit → Type 0
IsConjunction gs a b c = (x : Valuation) → Follows gs x → value_of x c ≡ (value_of x a && value_of x b)

-- one gate more at the end, or none
abbrev pub Grows : List Gate → List Gate → Type 0
Grows before after = (more : List Gate) × (after ≡ before ++ more) × (length more ≤ 1)
