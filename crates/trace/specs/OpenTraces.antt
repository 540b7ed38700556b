-- Traces of all replays that have what is given of a first state and of lines: what is known of them.
use Rattle.std.specs.Prelude.{◌≡◌, ◌≢◌, ℕ, Bool, List, [], Option, None}
use Rattle.std.specs.Io.KnownBytes.{Appends}
use Rattle.base.specs.Devices.{PutsBeginning}
use Rattle.graph.specs.File.{File}
use Rattle.stimulus.specs.declared.sim_error.SimError.{SimError}
use Rattle.stimulus.specs.declared.sim_error.SimError.TheVariants.{NotViolated, LineLength, NoInputLine, InitialReset, Device, OutOfMemory}
use Rattle.wave_signals.specs.OpenRows.{HasFitRows, IsFirstOpenAgainst, IsOpenPlayable, IsWrongRowOf}
use Rattle.signal_values.specs.SignalValues.{AreKnown}
use Rattle.trace.specs.Traces.{Signals, trace_text}
use Rattle.trace.specs.Waves.{wave_text}

-- the trace of what is known was put
pub record PutsOpenTrace (f : File) (all : Bool) (initial : List (Option Bool)) (inputs : List (List (Option Bool))) (before after : Option (List ℕ)) : Type 0 where
  pub playable : IsOpenPlayable f.model initial inputs
  pub shows : Signals f all
  pub rows : List (List (Option Bool))
  pub known : AreKnown f.model initial inputs shows.bits rows
  pub appends : Appends before after (trace_text shows.bits shows.signals rows None)

-- the waveform of what is known was put
pub record PutsOpenWave (f : File) (all : Bool) (initial : List (Option Bool)) (inputs : List (List (Option Bool))) (before after : Option (List ℕ)) : Type 0 where
  pub playable : IsOpenPlayable f.model initial inputs
  pub shows : Signals f all
  pub rows : List (List (Option Bool))
  pub known : AreKnown f.model initial inputs shows.bits rows
  pub appends : Appends before after (wave_text shows.bits shows.signals rows None)

-- no cause stands, and after the sink's failure a beginning of the trace was put
pub record IsOpenTraceCutOff (f : File) (all : Bool) (initial : List (Option Bool)) (inputs : List (List (Option Bool))) (before after : Option (List ℕ)) : Type 0 where
  pub playable : IsOpenPlayable f.model initial inputs
  pub shows : Signals f all
  pub rows : List (List (Option Bool))
  pub known : AreKnown f.model initial inputs shows.bits rows
  pub begins : PutsBeginning before after (trace_text shows.bits shows.signals rows None)

-- no cause stands, and after the sink's failure a beginning of the waveform was put
pub record IsOpenWaveCutOff (f : File) (all : Bool) (initial : List (Option Bool)) (inputs : List (List (Option Bool))) (before after : Option (List ℕ)) : Type 0 where
  pub playable : IsOpenPlayable f.model initial inputs
  pub shows : Signals f all
  pub rows : List (List (Option Bool))
  pub known : AreKnown f.model initial inputs shows.bits rows
  pub begins : PutsBeginning before after (wave_text shows.bits shows.signals rows None)

-- the reason for which there is no trace stands
abbrev pub HasOpenTraceCause : File → Bool → List (Option Bool) → List (List (Option Bool)) → Option (List ℕ) → Option (List ℕ) → SimError → Type 0
HasOpenTraceCause f all initial inputs before after NotViolated = ⊥
HasOpenTraceCause f all initial inputs before after (LineLength k) = IsWrongRowOf f.model initial inputs k
HasOpenTraceCause f all initial inputs before after NoInputLine = HasFitRows f.model initial inputs × (inputs ≡ [])
HasOpenTraceCause f all initial inputs before after (InitialReset k) = HasFitRows f.model initial inputs × (inputs ≢ []) × IsFirstOpenAgainst f.model.latches initial k
HasOpenTraceCause f all initial inputs before after Device = IsOpenTraceCutOff f all initial inputs before after
HasOpenTraceCause f all initial inputs before after (OutOfMemory refused) = Unit {0}

-- the reason for which there is no waveform stands
abbrev pub HasOpenWaveCause : File → Bool → List (Option Bool) → List (List (Option Bool)) → Option (List ℕ) → Option (List ℕ) → SimError → Type 0
HasOpenWaveCause f all initial inputs before after NotViolated = ⊥
HasOpenWaveCause f all initial inputs before after (LineLength k) = IsWrongRowOf f.model initial inputs k
HasOpenWaveCause f all initial inputs before after NoInputLine = HasFitRows f.model initial inputs × (inputs ≡ [])
HasOpenWaveCause f all initial inputs before after (InitialReset k) = HasFitRows f.model initial inputs × (inputs ≢ []) × IsFirstOpenAgainst f.model.latches initial k
HasOpenWaveCause f all initial inputs before after Device = IsOpenWaveCutOff f all initial inputs before after
HasOpenWaveCause f all initial inputs before after (OutOfMemory refused) = Unit {0}
