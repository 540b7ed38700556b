-- Why a replay is refused: numbers, places and causes.
use Rattle.std.specs.Prelude.{ℕ, Bool, List}
use Rattle.graph.specs.declared.circuit.Latch.{Latch}
use Rattle.simulate.specs.declared.replay_error.ReplayError.{ReplayError}
use Rattle.simulate.specs.declared.replay_error.ReplayError.TheVariants.{InitialReset, OutOfMemory}
use Rattle.simulate.specs.Starts.{IsFirstAgainst}

abbrev pub number_of : ReplayError → ℕ
number_of (InitialReset latch) = 60
number_of (OutOfMemory refused) = 20

abbrev pub place_of : ReplayError → ℕ
place_of (InitialReset latch) = latch
place_of (OutOfMemory refused) = 0

-- the reason for which a replay from this state is refused stands
abbrev pub HasCause : List Latch → List Bool → ReplayError → Type 0
HasCause latches state (InitialReset latch) = IsFirstAgainst latches state latch
HasCause latches state (OutOfMemory refused) = Unit {0}
