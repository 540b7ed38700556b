-- What is given of a first state and of lines, and why nothing is known of it.
use Rattle.std.specs.Prelude.{◌≡◌, ◌≢◌, ℕ, ◌+◌, ◌<◌, ◌⊎◌, Bool, true, false, List, [], length, Option, slice_index_or, All}
use Rattle.graph.specs.declared.circuit.Latch.{Latch}
use Rattle.graph.specs.declared.parts.Parts.{Parts}
use Rattle.stimulus.specs.declared.sim_error.SimError.{SimError}
use Rattle.stimulus.specs.declared.sim_error.SimError.TheVariants.{NotViolated, LineLength, NoInputLine, InitialReset, Device, OutOfMemory}
use Rattle.witness.specs.Completions.{Keeps}
use Rattle.wave_signals.specs.OpenValues.{open_place}

-- the row at t has another length, and none before it
pub record IsWrongRow (rows : List (List (Option Bool))) (long t : ℕ) : Type 0 where
  pub inside : t < length rows
  pub wrong : length (slice_index_or rows t []) ≢ long
  pub before : (i : ℕ) → i < t → length (slice_index_or rows i []) ≡ long

-- the row of the latches, of number 0, or else the row of inputs at the time before this number is the first of another length
abbrev pub IsWrongRowOf : Parts → List (Option Bool) → List (List (Option Bool)) → ℕ → Type 0
IsWrongRowOf m initial inputs k =
    ((k ≡ 0) × (length initial ≢ length m.latches))
    ⊎ ((length initial ≡ length m.latches) × ((t : ℕ) × (k ≡ t + 1) × IsWrongRow inputs (length m.inputs) t))

-- the rows have their lengths
pub record HasFitRows (m : Parts) (initial : List (Option Bool)) (inputs : List (List (Option Bool))) : Type 0 where
  pub latches : length initial ≡ length m.latches
  pub inputs_fit : All (λ row. length row ≡ length m.inputs) inputs

-- a latch that is reset to 0 or to 1 is open, or has that value
pub record IsOpenFine (l : Latch) (given : Option Bool) : Type 0 where
  pub low : l.reset.0 ≡ 0 → Keeps given false
  pub high : l.reset.0 ≡ 1 → Keeps given true

-- so is the k-th latch
abbrev pub IsOpenFineAt : List Latch → List (Option Bool) → ℕ → Type 0
IsOpenFineAt latches given k = (d : Latch) → IsOpenFine (slice_index_or latches k d) (open_place given k)

-- so is every latch
abbrev pub AreOpenFine : List Latch → List (Option Bool) → Type 0
AreOpenFine latches given = (k : ℕ) → k < length latches → IsOpenFineAt latches given k

-- the k-th latch is given against its reset, and none before it
pub record IsFirstOpenAgainst (latches : List Latch) (given : List (Option Bool)) (k : ℕ) : Type 0 where
  pub inside : k < length latches
  pub against : IsOpenFineAt latches given k → ⊥
  pub before : (i : ℕ) → i < k → IsOpenFineAt latches given i

-- the rows have their lengths, there is a row of inputs, and no latch is given against its reset
pub record IsOpenPlayable (m : Parts) (initial : List (Option Bool)) (inputs : List (List (Option Bool))) : Type 0 where
  pub rows : HasFitRows m initial inputs
  pub some : inputs ≢ []
  pub fine : AreOpenFine m.latches initial

-- the reason for which nothing is known of the rows stands, and none that comes before it: a row's length, no row of inputs, a
-- latch that is given against its reset
abbrev pub HasOpenCause : Parts → List (Option Bool) → List (List (Option Bool)) → SimError → Type 0
HasOpenCause m initial inputs NotViolated = ⊥
HasOpenCause m initial inputs (LineLength k) = IsWrongRowOf m initial inputs k
HasOpenCause m initial inputs NoInputLine = HasFitRows m initial inputs × (inputs ≡ [])
HasOpenCause m initial inputs (InitialReset k) = HasFitRows m initial inputs × (inputs ≢ []) × IsFirstOpenAgainst m.latches initial k
HasOpenCause m initial inputs Device = ⊥
HasOpenCause m initial inputs (OutOfMemory refused) = Unit {0}
