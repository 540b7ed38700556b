-- Why there is no trace of what is known.
use Rattle.std.proofs.Common.{ℕ, Bool, List, Option}
use Rattle.base.specs.Devices.{PutsBeginning}
use Rattle.graph.specs.File.{File}
use Rattle.stimulus.specs.declared.sim_error.SimError.{SimError}
use Rattle.stimulus.specs.declared.sim_error.SimError.TheVariants.{NotViolated, LineLength, NoInputLine, InitialReset, Device, OutOfMemory}
use Rattle.wave_signals.specs.OpenRows.{HasOpenCause}
use Rattle.trace.specs.OpenTraces.{HasOpenTraceCause, HasOpenWaveCause, IsOpenTraceCutOff, IsOpenWaveCutOff}
use Rattle.trace.specs.Traces.{IsCutShort}

pub open_trace_cause : (f : File) (all : Bool) (initial : List (Option Bool)) (inputs : List (List (Option Bool))) (before after : Option (List ℕ)) (e : SimError) → HasOpenCause f.model initial inputs e → HasOpenTraceCause f all initial inputs before after e
open_trace_cause f all initial inputs before after NotViolated h = h
open_trace_cause f all initial inputs before after (LineLength k) h = h
open_trace_cause f all initial inputs before after NoInputLine h = h
open_trace_cause f all initial inputs before after (InitialReset k) h = h
open_trace_cause f all initial inputs before after Device h = absurd h
open_trace_cause f all initial inputs before after (OutOfMemory refused) h = tt

pub open_wave_cause : (f : File) (all : Bool) (initial : List (Option Bool)) (inputs : List (List (Option Bool))) (before after : Option (List ℕ)) (e : SimError) → HasOpenCause f.model initial inputs e → HasOpenWaveCause f all initial inputs before after e
open_wave_cause f all initial inputs before after NotViolated h = h
open_wave_cause f all initial inputs before after (LineLength k) h = h
open_wave_cause f all initial inputs before after NoInputLine h = h
open_wave_cause f all initial inputs before after (InitialReset k) h = h
open_wave_cause f all initial inputs before after Device h = absurd h
open_wave_cause f all initial inputs before after (OutOfMemory refused) h = tt

pub open_trace_cut : (f : File) (all : Bool) (initial : List (Option Bool)) (inputs : List (List (Option Bool))) (before after : Option (List ℕ)) (text : List ℕ) → (PutsBeginning before after text → IsOpenTraceCutOff f all initial inputs before after) →
    (e : SimError) → IsCutShort before after text e → HasOpenTraceCause f all initial inputs before after e
open_trace_cut f all initial inputs before after text begins NotViolated h = h
open_trace_cut f all initial inputs before after text begins (LineLength k) h = absurd h
open_trace_cut f all initial inputs before after text begins NoInputLine h = absurd h
open_trace_cut f all initial inputs before after text begins (InitialReset k) h = absurd h
open_trace_cut f all initial inputs before after text begins Device h = begins h
open_trace_cut f all initial inputs before after text begins (OutOfMemory refused) h = tt

pub open_wave_cut : (f : File) (all : Bool) (initial : List (Option Bool)) (inputs : List (List (Option Bool))) (before after : Option (List ℕ)) (text : List ℕ) → (PutsBeginning before after text → IsOpenWaveCutOff f all initial inputs before after) →
    (e : SimError) → IsCutShort before after text e → HasOpenWaveCause f all initial inputs before after e
open_wave_cut f all initial inputs before after text begins NotViolated h = h
open_wave_cut f all initial inputs before after text begins (LineLength k) h = absurd h
open_wave_cut f all initial inputs before after text begins NoInputLine h = absurd h
open_wave_cut f all initial inputs before after text begins (InitialReset k) h = absurd h
open_wave_cut f all initial inputs before after text begins Device h = begins h
open_wave_cut f all initial inputs before after text begins (OutOfMemory refused) h = tt
