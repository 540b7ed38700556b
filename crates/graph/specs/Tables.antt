-- What the tables by variable say.
use Rattle.std.specs.Prelude.{◌≡◌, ℕ, ◌++◌, List, length, Bool, slice_index_or, Contains, ◌↔◌, IsTrue, false}
use Rattle.graph.specs.declared.definitions.Times.{Times}
use Rattle.graph.specs.declared.definitions.Times.TheVariants.{Never, Once, Again}
use Rattle.graph.specs.Faults.{IsTwice}

-- how often v stands in the list
abbrev pub Stands : List ℕ → ℕ → Times → Type 0
Stands vs v Never = Contains vs v → ⊥
Stands vs v Once = Contains vs v × (IsTwice vs v → ⊥)
Stands vs v Again = IsTwice vs v

-- the table says of each variable how often it stands in the list
abbrev pub IsCounted : List Times → List ℕ → Type 0
IsCounted table vs = (v : ℕ) → Stands vs v (slice_index_or table v Never)

-- the table says of each variable whether it stands in the list
abbrev pub IsMarked : List Bool → List ℕ → Type 0
IsMarked table vs = (v : ℕ) → IsTrue (slice_index_or table v false) ↔ Contains vs v

-- what the table counted before, it counts with these after it
pub record StaysCounted (before after : List Times) (more : List ℕ) : Type 0 where
  pub places : length after ≡ length before
  pub counts : (vs : List ℕ) → IsCounted before vs → IsCounted after (vs ++ more)

-- what the table marked before, it marks with these after it
pub record StaysMarked (before after : List Bool) (more : List ℕ) : Type 0 where
  pub places : length after ≡ length before
  pub marks : (vs : List ℕ) → IsMarked before vs → IsMarked after (vs ++ more)
