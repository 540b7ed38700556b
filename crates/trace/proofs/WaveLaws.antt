-- What is put of a waveform.
use Rattle.std.proofs.Common.{◌≡◌, ◌≢◌, ℕ, Bool, List, Option, length, refl, ap, ◌∙◌}
use Rattle.base.specs.Devices.{PutsBeginning}
use Rattle.graph.specs.declared.circuit.Property.{Property}
use Rattle.graph.specs.File.{File}
use Rattle.stimulus.specs.declared.value.Stimulus.{Stimulus}
use Rattle.stimulus.specs.declared.value.Stimulus.TheVariants.{Holds, Violated, Unknown}
use Rattle.stimulus.specs.declared.sim_error.SimError.{SimError}
use Rattle.stimulus.specs.declared.sim_error.SimError.TheVariants.{NotViolated, LineLength, NoInputLine, InitialReset, Device, OutOfMemory}
use Rattle.stimulus.specs.Tables.{HasSimCauseIn}
use Rattle.wave_signals.specs.declared.bits.Bit.{Bit}
use Rattle.wave_signals.specs.declared.signals.Signal.{Signal}
use Rattle.wave_signals.specs.Columns.{rows_of}
use Rattle.trace.specs.Lines.{HasLines}
use Rattle.trace.specs.Traces.{IsCutShort}
use Rattle.trace.specs.Waves.{HasWaveCause, HasWaveCauseIn, IsWaveCutOff, wave_text}

-- what comes before the sink is the same for a table
pub wave_cause : (f : File) (all : Bool) (p : Property) (initial : List Bool) (inputs : List (List Bool)) (before after : Option (List ℕ)) (e : SimError) → e ≢ Device →
    HasSimCauseIn f.model initial inputs before after e → HasWaveCauseIn f all p initial inputs before after e
wave_cause f all p initial inputs before after NotViolated fits h = h
wave_cause f all p initial inputs before after (LineLength k) fits h = h
wave_cause f all p initial inputs before after NoInputLine fits h = h
wave_cause f all p initial inputs before after (InitialReset k) fits h = h
wave_cause f all p initial inputs before after Device fits h = absurd (fits refl)
wave_cause f all p initial inputs before after (OutOfMemory refused) fits h = tt

-- of what shows no violation there is no waveform
pub no_wave : (f : File) (all : Bool) (s : Stimulus) (before after : Option (List ℕ)) → ((p : Property) (initial : List Bool) (inputs : List (List Bool)) → HasLines s p initial inputs → ⊥) →
    HasWaveCause f all s before after NotViolated
no_wave f all (Violated p initial inputs) before after none = absurd (none p initial inputs refl)
no_wave f all (Holds p) before after none = refl
no_wave f all (Unknown p) before after none = refl

pub wave_cut : (f : File) (all : Bool) (p : Property) (initial : List Bool) (inputs : List (List Bool)) (before after : Option (List ℕ)) (text : List ℕ) → (PutsBeginning before after text → IsWaveCutOff f all p initial inputs before after) →
    (e : SimError) → IsCutShort before after text e → HasWaveCauseIn f all p initial inputs before after e
wave_cut f all p initial inputs before after text begins NotViolated h = h
wave_cut f all p initial inputs before after text begins (LineLength k) h = absurd h
wave_cut f all p initial inputs before after text begins NoInputLine h = absurd h
wave_cut f all p initial inputs before after text begins (InitialReset k) h = absurd h
wave_cut f all p initial inputs before after text begins Device h = begins h
wave_cut f all p initial inputs before after text begins (OutOfMemory refused) h = tt

-- what is said of a text by references is said by what they are of
pub wave_at : (bits same_bits : List Bit) (signals same_signals : List Signal) (values same_values : List (Option Bool)) (times : ℕ) (start : Option ℕ) (text : List ℕ) → bits ≡ same_bits → signals ≡ same_signals → values ≡ same_values →
    text ≡ wave_text bits signals (rows_of (length bits) times values) start → text ≡ wave_text same_bits same_signals (rows_of (length same_bits) times same_values) start
wave_at bits same_bits signals same_signals values same_values times start text is_bits is_signals is_values h =
    h ∙ ap (λ (b : List Bit). wave_text b signals (rows_of (length b) times values) start) is_bits ∙ ap (λ (s : List Signal). wave_text same_bits s (rows_of (length same_bits) times values) start) is_signals
    ∙ ap (λ (v : List (Option Bool)). wave_text same_bits same_signals (rows_of (length same_bits) times v) start) is_values
