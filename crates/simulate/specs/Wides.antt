-- Replaying 256 runs of a circuit at once, one time after another.
use Rattle.std.specs.Prelude.{◌≡◌, ℕ, ◌<◌, true, List, length, slice_index_or, Option, Some, None, Contains}
use Rattle.graph.specs.declared.circuit.Gate.{Gate}
use Rattle.graph.specs.declared.circuit.Latch.{Latch}
use Rattle.graph.specs.declared.parts.Parts.{Parts}
use Rattle.graph.specs.Circuits.{Valuation, place, variable, defined}
use Rattle.graph.specs.WellFormed.{gate_in, Reads, IsOrder}
use Rattle.simulate.specs.declared.replay_error.ReplayError.{ReplayError}
use Rattle.simulate.specs.declared.replay_error.ReplayError.TheVariants.{InitialReset, OutOfMemory}
use Rattle.simulate.specs.Lanes.{row_of}
use Rattle.simulate.specs.Replays.{Replayed, Steps}
use Rattle.simulate.specs.Starts.{Starts, IsFineAt}

-- a circuit, the states of the next time, and the variables' values at the time before it, in each run
pub record WideReplayed : Type 0 where
  pub circuit : Parts
  pub state : List (List ℕ)
  pub now : Option (List (List ℕ))

-- no time has passed
abbrev pub wide_begun : Parts → List (List ℕ) → WideReplayed
wide_begun m state = record { circuit = m; state = state; now = None }

-- the valuation of run r, where a time has passed
abbrev pub valuation_of : ℕ → Option (List (List ℕ)) → Option Valuation
valuation_of r None = None
valuation_of r (Some values) = Some (row_of r values)

-- run r as a replay of its own
abbrev pub run_in : WideReplayed → ℕ → Replayed
run_in w r = record { circuit = w.circuit; state = row_of r w.state; now = valuation_of r w.now }

-- one time passes in each of the 256 runs
abbrev pub AllStep : WideReplayed → WideReplayed → List (List ℕ) → Type 0
AllStep before after inputs = (r : ℕ) → r < 256 → Steps (run_in before r) (run_in after r) (row_of r inputs)

-- what nothing defines is false in each run
abbrev pub AreDefinedOnly : Parts → List (List ℕ) → Type 0
AreDefinedOnly m values = (r v : ℕ) → r < 256 → place (row_of r values) v ≡ true → Contains (defined m) v

-- the gates, taken in an order in which each comes after those that define its right sides
pub record AreInOrder (gates sorted : List Gate) : Type 0 where
  pub order : List ℕ
  pub is_order : IsOrder gates order
  pub long : length sorted ≡ length order
  pub each : (k : ℕ) (d : Gate) → k < length order → slice_index_or sorted k d ≡ gate_in gates order k d

-- each gate comes after those that define its right sides
abbrev pub AreAfterWhatTheyRead : List Gate → Type 0
AreAfterWhatTheyRead gates = (j k : ℕ) (d : Gate) → j < length gates → k < length gates →
    Reads (slice_index_or gates j d) (variable (slice_index_or gates k d).lhs) → k < j

-- each latch of each run that is reset to 0 or to 1 has that value
abbrev pub AllStart : List Latch → List (List ℕ) → Type 0
AllStart latches state = (r : ℕ) → r < 256 → Starts latches (row_of r state)

-- so has the k-th latch of each run
abbrev pub AreFineAt : List Latch → List (List ℕ) → ℕ → Type 0
AreFineAt latches state k = (r : ℕ) → r < 256 → IsFineAt latches (row_of r state) k

-- the k-th latch is against its reset in some run, and none before it in any
pub record IsFirstAgainstAny (latches : List Latch) (state : List (List ℕ)) (k : ℕ) : Type 0 where
  pub inside : k < length latches
  pub against : AreFineAt latches state k → ⊥
  pub before : (i : ℕ) → i < k → AreFineAt latches state i

-- the reason for which a replay of runs from these states is refused stands
abbrev pub HasWideCause : List Latch → List (List ℕ) → ReplayError → Type 0
HasWideCause latches state (InitialReset latch) = IsFirstAgainstAny latches state latch
HasWideCause latches state (OutOfMemory refused) = Unit {0}
