-- Truth values of 256 runs, packed into four words.
use Rattle.std.specs.Prelude.{◌≡◌, ℕ, ◌<◌, ◌/◌, ◌%◌, ◌==◌, Bool, true, false, List, map, slice_index_or}
use Rattle.std.specs.Int.{bit_at}

-- the value of run r: bit r mod 64 of word r / 64
abbrev pub value_in : List ℕ → ℕ → Bool
value_in lanes r = bit_at (slice_index_or lanes (r / 64) 0) (r % 64) == 1

-- one run's values, in their order
abbrev pub row_of : ℕ → List (List ℕ) → List Bool
row_of r lanes = map (λ x. value_in x r) lanes

-- one run's values at each time
abbrev pub rows_of : ℕ → List (List (List ℕ)) → List (List Bool)
rows_of r rows = map (row_of r) rows

-- run r is the lowest whose value is true
pub record IsLowest (lanes : List ℕ) (r : ℕ) : Type 0 where
  pub inside : r < 256
  pub set : value_in lanes r ≡ true
  pub before : (i : ℕ) → i < r → value_in lanes i ≡ false
