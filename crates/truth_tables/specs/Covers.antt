-- Covers that are kept, by the functions.
use Rattle.std.specs.Prelude.{◌≡◌, ◌<◌, ℕ, List, [], length, get_or, Option, Some}
use Rattle.truth_tables.specs.declared.cube.Cube.{Cube}
use Rattle.truth_tables.specs.Cubes.{IsCover}

-- each place is that of the function's cover
abbrev pub AreCovers : List (List Cube) → (ℕ → Option ℕ) → Type 0
AreCovers covers place_of = (t k : ℕ) → place_of t ≡ Some k → (k < length covers) × IsCover t (get_or covers k [])
