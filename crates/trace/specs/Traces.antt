-- Traces: a line for each signal of a replay, with a value for each time, in columns, and where the loop of a lasso begins.
use Rattle.std.specs.Prelude.{◌≡◌, ℕ, Bool, List, [], ◌++◌, map, Option, Some, None, codes, decimal}
use Rattle.std.specs.Io.KnownBytes.{Appends}
use Rattle.std.specs.List.{flat_map}
use Rattle.base.specs.Devices.{PutsBeginning}
use Rattle.graph.specs.declared.circuit.Property.{Property}
use Rattle.graph.specs.Circuits.{Valuation}
use Rattle.graph.specs.File.{File}
use Rattle.simulate.specs.Starts.{Starts, IsFirstAgainst}
use Rattle.stimulus.specs.declared.value.Stimulus.{Stimulus}
use Rattle.stimulus.specs.declared.value.Stimulus.TheVariants.{Holds, Violated, Unknown}
use Rattle.stimulus.specs.declared.sim_error.SimError.{SimError}
use Rattle.stimulus.specs.declared.sim_error.SimError.TheVariants.{NotViolated, LineLength, NoInputLine, InitialReset, Device, OutOfMemory}
use Rattle.stimulus.specs.Shown.{IsReplay, closing_state}
use Rattle.stimulus.specs.Causes.{HasFitLines, IsPlayable, IsWrongLine}
use Rattle.wave_signals.specs.declared.bits.Bit.{Bit}
use Rattle.wave_signals.specs.declared.signals.Signal.{Signal}
use Rattle.wave_texts.specs.Changes.{part_of}
use Rattle.bit_numbers.specs.Numbers.{number_text}
use Rattle.wave_signals.specs.Bits.{AreShown}
use Rattle.wave_signals.specs.Signals.{AreSignals, bits_of, signal_name}
use Rattle.wave_signals.specs.Columns.{known_at}
use Rattle.wave_signals.specs.Loops.{IsLoopStart}
use Rattle.trace.specs.Widths.{at_left, at_right, width_of}

-- the width of the names
abbrev pub names_width : List Bit → List Signal → ℕ
names_width bits signals = width_of (map (λ s. signal_name (bits_of bits s)) signals)

-- the width of the values in a row, which has those of all bits at a time
abbrev pub values_width : List Signal → List (Option Bool) → ℕ
values_width signals row = width_of (map (λ s. number_text (part_of row s)) signals)

-- a space, and the number of some bits at the right of a column of this width
abbrev pub number_cell : ℕ → List (Option Bool) → List ℕ
number_cell width bits = codes " " ++ at_right width (number_text bits)

-- the value of a signal in the column of its time
abbrev pub cell_text : List Signal → Signal → List (Option Bool) → List ℕ
cell_text signals s row = number_cell (values_width signals row) (part_of row s)

-- the line of a signal: its name at the left of the column of names, its value at each time, and a line end
abbrev pub row_text : List Bit → List Signal → List (List (Option Bool)) → Signal → List ℕ
row_text bits signals rows s = at_left (names_width bits signals) (signal_name (bits_of bits s)) ++ (flat_map (cell_text signals s) rows ++ codes "\n")

-- the line that tells where the loop begins, where there is one
abbrev pub loop_text : Option ℕ → List ℕ
loop_text None = []
loop_text (Some start) = (codes "loop " ++ decimal start) ++ codes "\n"

-- a line for each signal, and the loop
abbrev pub trace_text : List Bit → List Signal → List (List (Option Bool)) → Option ℕ → List ℕ
trace_text bits signals rows start = flat_map (row_text bits signals rows) signals ++ loop_text start

-- the signals of a file: the bits that are shown, each in one signal
pub record Signals (f : File) (all : Bool) : Type 0 where
  pub bits : List Bit
  pub signals : List Signal
  pub are_shown : AreShown f all bits
  pub are_signals : AreSignals bits signals

-- where a text is not put whole: a beginning of it, or nothing where memory is refused
abbrev pub IsCutShort : Option (List ℕ) → Option (List ℕ) → List ℕ → SimError → Type 0
IsCutShort before after text NotViolated = ⊥
IsCutShort before after text (LineLength k) = ⊥
IsCutShort before after text NoInputLine = ⊥
IsCutShort before after text (InitialReset k) = ⊥
IsCutShort before after text Device = PutsBeginning before after text
IsCutShort before after text (OutOfMemory refused) = Unit {0}

-- the trace of the one replay of the lines was put
pub record PutsTraceIn (f : File) (all : Bool) (p : Property) (initial : List Bool) (inputs : List (List Bool)) (before after : Option (List ℕ)) : Type 0 where
  pub replay : List Valuation
  pub replays : IsReplay f.model initial inputs replay
  pub only : (x : List Valuation) → IsReplay f.model initial inputs x → x ≡ replay
  pub starts : Starts f.model.latches initial
  pub shows : Signals f all
  pub start : Option ℕ
  pub loops : IsLoopStart f.model p (closing_state f.model replay) replay start
  pub appends : Appends before after (trace_text shows.bits shows.signals (map (known_at shows.bits) replay) start)

-- the trace of the stimulus's replay was put
abbrev pub PutsTrace : File → Bool → Stimulus → Option (List ℕ) → Option (List ℕ) → Type 0
PutsTrace f all (Violated p initial inputs) before after = PutsTraceIn f all p initial inputs before after
PutsTrace f all (Holds p) before after = ⊥
PutsTrace f all (Unknown p) before after = ⊥

-- no cause stands, and after the sink's failure a beginning of the trace of the replay was put
pub record IsTraceCutOff (f : File) (all : Bool) (p : Property) (initial : List Bool) (inputs : List (List Bool)) (before after : Option (List ℕ)) : Type 0 where
  pub playable : IsPlayable f.model initial inputs
  pub starts : Starts f.model.latches initial
  pub shows : Signals f all
  pub start : Option ℕ
  pub loops : (r : List Valuation) → IsReplay f.model initial inputs r → IsLoopStart f.model p (closing_state f.model r) r start
  pub begins : (r : List Valuation) → IsReplay f.model initial inputs r → PutsBeginning before after (trace_text shows.bits shows.signals (map (known_at shows.bits) r) start)

-- the reason for which there is no trace of the lines stands, and none that comes before it: no violation, a line's
-- length, no input line, a latch against its reset
abbrev pub HasTraceCauseIn : File → Bool → Property → List Bool → List (List Bool) → Option (List ℕ) → Option (List ℕ) → SimError → Type 0
HasTraceCauseIn f all p initial inputs before after NotViolated = ⊥
HasTraceCauseIn f all p initial inputs before after (LineLength k) = IsWrongLine f.model initial inputs k
HasTraceCauseIn f all p initial inputs before after NoInputLine = HasFitLines f.model initial inputs × (inputs ≡ [])
HasTraceCauseIn f all p initial inputs before after (InitialReset k) = IsPlayable f.model initial inputs × IsFirstAgainst f.model.latches initial k
HasTraceCauseIn f all p initial inputs before after Device = IsTraceCutOff f all p initial inputs before after
HasTraceCauseIn f all p initial inputs before after (OutOfMemory refused) = Unit {0}

-- the reason for which there is no trace of the stimulus stands
abbrev pub HasTraceCause : File → Bool → Stimulus → Option (List ℕ) → Option (List ℕ) → SimError → Type 0
HasTraceCause f all (Violated p initial inputs) before after e = HasTraceCauseIn f all p initial inputs before after e
HasTraceCause f all (Holds p) before after e = e ≡ NotViolated
HasTraceCause f all (Unknown p) before after e = e ≡ NotViolated
