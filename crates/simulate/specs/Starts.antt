-- States in which a circuit can begin (AIGER 1.9, Biere, Heljanko, Wieringa 2011).
use Rattle.std.specs.Prelude.{◌≡◌, ℕ, ◌<◌, Bool, true, false, List, length, slice_index_or}
use Rattle.graph.specs.declared.circuit.Latch.{Latch}

-- a latch that is reset to 0 or to 1 has that value
pub record IsFine (l : Latch) (value : Bool) : Type 0 where
  pub low : l.reset.0 ≡ 0 → value ≡ false
  pub high : l.reset.0 ≡ 1 → value ≡ true

-- so has the k-th latch
abbrev pub IsFineAt : List Latch → List Bool → ℕ → Type 0
IsFineAt latches state k = (d : Latch) → IsFine (slice_index_or latches k d) (slice_index_or state k false)

-- so has every latch
abbrev pub Starts : List Latch → List Bool → Type 0
Starts latches state = (k : ℕ) → k < length latches → IsFineAt latches state k

-- the k-th latch is against its reset, and none before it
pub record IsFirstAgainst (latches : List Latch) (state : List Bool) (k : ℕ) : Type 0 where
  pub inside : k < length latches
  pub against : IsFineAt latches state k → ⊥
  pub before : (i : ℕ) → i < k → IsFineAt latches state i
