-- The ids of units.
use Rattle.std.specs.Prelude.{◌≡◌, ◌<◌, ◌+◌, ℕ, ℤ, pos, neg_ℤ, List, [], ◌∷◌, length, get_or}

-- the id of the unit at an index, where the units have the ids behind base
abbrev pub unit_id : ℕ → ℕ → ℤ
unit_id base index = pos (base + index + 1)

-- for each literal of a clause the index of the unit that denies it, in order
abbrev pub AreDeniedAt : List ℤ → List ℤ → List ℕ → Type 0
AreDeniedAt units [] [] = Unit {0}
AreDeniedAt units (l ∷ c) (p ∷ ps) = (p < length units) × (get_or units p (pos 0) ≡ neg_ℤ l) × AreDeniedAt units c ps
AreDeniedAt units _ _ = ⊥

-- the id of a literal among units that have the ids behind base
pub record IsUnitId (base : ℕ) (units : List ℤ) (literal : ℤ) (id : ℤ) : Type 0 where
  pub index : ℕ
  pub inside : index < length units
  pub there : get_or units index (pos 0) ≡ literal
  pub is : id ≡ pos (base + index + 1)

-- for each literal of a clause the id of the unit that denies it, in order
abbrev pub AreDenials : ℕ → List ℤ → List ℤ → List ℤ → Type 0
AreDenials base units [] [] = Unit {0}
AreDenials base units (l ∷ c) (id ∷ ids) = IsUnitId base units (neg_ℤ l) id × AreDenials base units c ids
AreDenials base units _ _ = ⊥
