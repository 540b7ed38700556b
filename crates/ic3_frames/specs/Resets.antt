-- Initial states (AIGER 1.9, Biere, Heljanko, Wieringa 2011).
use Rattle.std.specs.Prelude.{◌≡◌, ℕ, ◌<◌, Bool, true, false, List, length, slice_index_or}
use Rattle.graph.specs.declared.circuit.Latch.{Latch}
use Rattle.graph.specs.declared.parts.Parts.{Parts}
use Rattle.states.specs.States.{latch_at}

-- each latch that is reset to 0 or to 1 has that value
abbrev pub HasResets : List Latch → List Bool → Type 0
HasResets latches s = (i : ℕ) (d : Latch) → i < length latches →
    ((slice_index_or latches i d).reset.0 ≡ 0 → latch_at s i ≡ false) × ((slice_index_or latches i d).reset.0 ≡ 1 → latch_at s i ≡ true)

-- the state has each reset of the circuit
abbrev pub IsInitialState : Parts → List Bool → Type 0
IsInitialState m s = HasResets m.latches s
