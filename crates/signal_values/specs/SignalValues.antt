-- The values of a file's signals at each time of a replay.
use Rattle.std.specs.Prelude.{◌≡◌, ℕ, ◌*◌, Bool, List, length, map, Option}
use Rattle.graph.specs.declared.circuit.Property.{Property}
use Rattle.graph.specs.declared.parts.Parts.{Parts}
use Rattle.graph.specs.Circuits.{Valuation}
use Rattle.graph.specs.File.{File}
use Rattle.simulate.specs.Starts.{Starts}
use Rattle.stimulus.specs.Shown.{IsReplay, closing_state}
use Rattle.stimulus.specs.Causes.{IsPlayable}
use Rattle.witness.specs.Completions.{Completes}
use Rattle.witness.specs.Cleared.{CompleteAll}
use Rattle.wave_signals.specs.declared.bits.Bit.{Bit}
use Rattle.wave_signals.specs.declared.signals.Signal.{Signal}
use Rattle.wave_signals.specs.Bits.{AreShown}
use Rattle.wave_signals.specs.Signals.{AreSignals}
use Rattle.wave_signals.specs.Columns.{known_at, rows_of, values_at}
use Rattle.wave_signals.specs.Loops.{IsLoopStart}
use Rattle.wave_signals.specs.OpenRows.{IsOpenPlayable}

-- the lines have one replay, and these are the values of the bits at each time of it
pub record AreOfReplay (m : Parts) (initial : List Bool) (inputs : List (List Bool)) (bits : List Bit) (values : List (Option Bool)) : Type 0 where
  pub replay : List Valuation
  pub replays : IsReplay m initial inputs replay
  pub only : (x : List Valuation) → IsReplay m initial inputs x → x ≡ replay
  pub rows_are : (x : List Valuation) → IsReplay m initial inputs x → rows_of (length bits) (length inputs) values ≡ map (known_at bits) x
  pub long : length values ≡ length inputs * length bits

-- where the lasso that the replay of the lines closes begins
abbrev pub IsLoopStartIn : Parts → Property → List Bool → List (List Bool) → Option ℕ → Type 0
IsLoopStartIn m p initial inputs start = (x : List Valuation) → IsReplay m initial inputs x → IsLoopStart m p (closing_state m x) x start

-- the signals of the file, the values of their bits at each time of the one replay of the lines, and where its loop begins
pub record AreSignalValues (f : File) (all : Bool) (p : Property) (initial : List Bool) (inputs : List (List Bool)) (bits : List Bit) (signals : List Signal) (values : List (Option Bool)) (start : Option ℕ) : Type 0 where
  pub playable : IsPlayable f.model initial inputs
  pub starts : Starts f.model.latches initial
  pub are_shown : AreShown f all bits
  pub are_signals : AreSignals bits signals
  pub of : AreOfReplay f.model initial inputs bits values
  pub loops : IsLoopStartIn f.model p initial inputs start

-- the rows have a row for each time, and a value that is known in them is that of the bit at that time, in each replay of each
-- first state and lines that have what is given
abbrev pub AreKnown : Parts → List (Option Bool) → List (List (Option Bool)) → List Bit → List (List (Option Bool)) → Type 0
AreKnown m initial inputs bits rows = (st : List Bool) (lines : List (List Bool)) (r : List Valuation) → Starts m.latches st → Completes initial st → CompleteAll inputs lines → IsReplay m st lines r →
    CompleteAll rows (map (values_at bits) r)

-- the signals of the file, and what is known of their bits at each time
pub record AreOpenValues (f : File) (all : Bool) (initial : List (Option Bool)) (inputs : List (List (Option Bool))) (bits : List Bit) (signals : List Signal) (values : List (Option Bool)) : Type 0 where
  pub playable : IsOpenPlayable f.model initial inputs
  pub are_shown : AreShown f all bits
  pub are_signals : AreSignals bits signals
  pub long : length values ≡ length inputs * length bits
  pub known : AreKnown f.model initial inputs bits (rows_of (length bits) (length inputs) values)
