-- Waveforms: a replay as a value change dump (IEEE 1364), with a variable for each signal.
use Rattle.std.specs.Prelude.{◌≡◌, ℕ, Bool, List, [], ◌++◌, Option, Some, None, map, codes, decimal}
use Rattle.std.specs.Io.KnownBytes.{Appends}
use Rattle.base.specs.Devices.{PutsBeginning}
use Rattle.graph.specs.declared.circuit.Property.{Property}
use Rattle.graph.specs.Circuits.{Valuation}
use Rattle.graph.specs.File.{File}
use Rattle.simulate.specs.Starts.{Starts, IsFirstAgainst}
use Rattle.stimulus.specs.declared.value.Stimulus.{Stimulus}
use Rattle.stimulus.specs.declared.value.Stimulus.TheVariants.{Holds, Violated, Unknown}
use Rattle.stimulus.specs.declared.sim_error.SimError.{SimError}
use Rattle.stimulus.specs.declared.sim_error.SimError.TheVariants.{NotViolated, LineLength, NoInputLine, InitialReset, Device, OutOfMemory}
use Rattle.stimulus.specs.Shown.{IsReplay, closing_state}
use Rattle.stimulus.specs.Causes.{HasFitLines, IsPlayable, IsWrongLine}
use Rattle.wave_signals.specs.declared.bits.Bit.{Bit}
use Rattle.wave_signals.specs.declared.signals.Signal.{Signal}
use Rattle.wave_signals.specs.Signals.{bits_of}
use Rattle.wave_signals.specs.Columns.{known_at}
use Rattle.wave_signals.specs.Loops.{IsLoopStart}
use Rattle.trace.specs.Traces.{Signals}
use Rattle.wave_texts.specs.Variables.{variables_text}
use Rattle.wave_texts.specs.Changes.{times_text}

-- the comment that tells where the loop begins, where there is one
abbrev pub comment_text : Option ℕ → List ℕ
comment_text None = []
comment_text (Some start) = (codes "$comment loop " ++ decimal start) ++ codes " $end\n"

-- what comes before the first time: how long a time is called, a variable for each signal, and the loop
abbrev pub head_text : List Bit → List Signal → Option ℕ → List ℕ
head_text bits signals start = ((codes "$timescale 1 ns $end\n" ++ variables_text [] (map (bits_of bits) signals)) ++ comment_text start) ++ codes "$enddefinitions $end\n"

-- a variable for each signal, and each time, with a row of the values of all bits, with what changed: at the first time all, since
-- none stand before it
abbrev pub wave_text : List Bit → List Signal → List (List (Option Bool)) → Option ℕ → List ℕ
wave_text bits signals rows start = head_text bits signals start ++ times_text bits signals 0 [] rows

-- the waveform of the one replay of the lines was put
pub record PutsWaveIn (f : File) (all : Bool) (p : Property) (initial : List Bool) (inputs : List (List Bool)) (before after : Option (List ℕ)) : Type 0 where
  pub replay : List Valuation
  pub replays : IsReplay f.model initial inputs replay
  pub only : (x : List Valuation) → IsReplay f.model initial inputs x → x ≡ replay
  pub starts : Starts f.model.latches initial
  pub shows : Signals f all
  pub start : Option ℕ
  pub loops : IsLoopStart f.model p (closing_state f.model replay) replay start
  pub appends : Appends before after (wave_text shows.bits shows.signals (map (known_at shows.bits) replay) start)

-- the waveform of the stimulus's replay was put
abbrev pub PutsWave : File → Bool → Stimulus → Option (List ℕ) → Option (List ℕ) → Type 0
PutsWave f all (Violated p initial inputs) before after = PutsWaveIn f all p initial inputs before after
PutsWave f all (Holds p) before after = ⊥
PutsWave f all (Unknown p) before after = ⊥

-- no cause stands, and after the sink's failure a beginning of the waveform of the replay was put
pub record IsWaveCutOff (f : File) (all : Bool) (p : Property) (initial : List Bool) (inputs : List (List Bool)) (before after : Option (List ℕ)) : Type 0 where
  pub playable : IsPlayable f.model initial inputs
  pub starts : Starts f.model.latches initial
  pub shows : Signals f all
  pub start : Option ℕ
  pub loops : (r : List Valuation) → IsReplay f.model initial inputs r → IsLoopStart f.model p (closing_state f.model r) r start
  pub begins : (r : List Valuation) → IsReplay f.model initial inputs r → PutsBeginning before after (wave_text shows.bits shows.signals (map (known_at shows.bits) r) start)

-- the reason for which there is no waveform of the lines stands, and none that comes before it: no violation, a line's
-- length, no input line, a latch against its reset
abbrev pub HasWaveCauseIn : File → Bool → Property → List Bool → List (List Bool) → Option (List ℕ) → Option (List ℕ) → SimError → Type 0
HasWaveCauseIn f all p initial inputs before after NotViolated = ⊥
HasWaveCauseIn f all p initial inputs before after (LineLength k) = IsWrongLine f.model initial inputs k
HasWaveCauseIn f all p initial inputs before after NoInputLine = HasFitLines f.model initial inputs × (inputs ≡ [])
HasWaveCauseIn f all p initial inputs before after (InitialReset k) = IsPlayable f.model initial inputs × IsFirstAgainst f.model.latches initial k
HasWaveCauseIn f all p initial inputs before after Device = IsWaveCutOff f all p initial inputs before after
HasWaveCauseIn f all p initial inputs before after (OutOfMemory refused) = Unit {0}

-- the reason for which there is no waveform of the stimulus stands
abbrev pub HasWaveCause : File → Bool → Stimulus → Option (List ℕ) → Option (List ℕ) → SimError → Type 0
HasWaveCause f all (Violated p initial inputs) before after e = HasWaveCauseIn f all p initial inputs before after e
HasWaveCause f all (Holds p) before after e = e ≡ NotViolated
HasWaveCause f all (Unknown p) before after e = e ≡ NotViolated
