-- What is put of a trace.
use Rattle.std.proofs.Common.{◌≡◌, ◌≢◌, ◌*◌, ℕ, Bool, List, [], length, map, Option, Result, Ok, Err, OnOk, IfErr, refl, sym, ap, ◌∙◌, arith}
use Rattle.base.specs.Devices.{PutsBeginning}
use Rattle.graph.specs.declared.parts.Parts.{Parts}
use Rattle.graph.specs.declared.circuit.Property.{Property}
use Rattle.graph.specs.File.{File}
use Rattle.simulate.specs.Replays.{Replayed}
use Rattle.stimulus.specs.declared.value.Stimulus.{Stimulus}
use Rattle.stimulus.specs.declared.value.Stimulus.TheVariants.{Holds, Violated, Unknown}
use Rattle.stimulus.specs.declared.sim_error.SimError.{SimError}
use Rattle.stimulus.specs.declared.sim_error.SimError.TheVariants.{NotViolated, LineLength, NoInputLine, InitialReset, Device, OutOfMemory}
use Rattle.stimulus.specs.Tables.{HasSimCauseIn}
use Rattle.stimulus.proofs.PlayLaws.{one_replay}
use Rattle.stimulus.proofs.PlaySteps.{played_long}
use Rattle.wave_signals.specs.declared.bits.Bit.{Bit}
use Rattle.wave_signals.specs.Columns.{HasValues, known_at, rows_of}
use Rattle.signal_values.specs.SignalValues.{AreOfReplay}
use Rattle.trace.specs.Lines.{HasLines}
use Rattle.trace.specs.Traces.{HasTraceCause, HasTraceCauseIn, IsCutShort, IsTraceCutOff}
use Rattle.wave_signals.proofs.ColumnLaws.{rows_known, values_long}

-- what comes before the sink is the same for a table
pub trace_cause : (f : File) (all : Bool) (p : Property) (initial : List Bool) (inputs : List (List Bool)) (before after : Option (List ℕ)) (e : SimError) → e ≢ Device →
    HasSimCauseIn f.model initial inputs before after e → HasTraceCauseIn f all p initial inputs before after e
trace_cause f all p initial inputs before after NotViolated fits h = h
trace_cause f all p initial inputs before after (LineLength k) fits h = h
trace_cause f all p initial inputs before after NoInputLine fits h = h
trace_cause f all p initial inputs before after (InitialReset k) fits h = h
trace_cause f all p initial inputs before after Device fits h = absurd (fits refl)
trace_cause f all p initial inputs before after (OutOfMemory refused) fits h = tt

-- of what shows no violation there is no table
pub no_trace : (f : File) (all : Bool) (s : Stimulus) (before after : Option (List ℕ)) → ((p : Property) (initial : List Bool) (inputs : List (List Bool)) → HasLines s p initial inputs → ⊥) →
    HasTraceCause f all s before after NotViolated
no_trace f all (Violated p initial inputs) before after none = absurd (none p initial inputs refl)
no_trace f all (Holds p) before after none = refl
no_trace f all (Unknown p) before after none = refl

-- ---- a text that was put, or cut short

pub on_ok : {X E : Type 0} (A B : Type 0) (r : Result X E) → (A → B) → OnOk r A → OnOk r B
on_ok A B (Ok x) f h = f h
on_ok A B (Err e) f h = tt

pub if_err : {X E : Type 0} (P Q : E → Type 0) (r : Result X E) → ((e : E) → P e → Q e) → IfErr r P → IfErr r Q
if_err P Q (Ok x) f h = tt
if_err P Q (Err e) f h = f e h

pub trace_cut : (f : File) (all : Bool) (p : Property) (initial : List Bool) (inputs : List (List Bool)) (before after : Option (List ℕ)) (text : List ℕ) → (PutsBeginning before after text → IsTraceCutOff f all p initial inputs before after) →
    (e : SimError) → IsCutShort before after text e → HasTraceCauseIn f all p initial inputs before after e
trace_cut f all p initial inputs before after text begins NotViolated h = h
trace_cut f all p initial inputs before after text begins (LineLength k) h = absurd h
trace_cut f all p initial inputs before after text begins NoInputLine h = absurd h
trace_cut f all p initial inputs before after text begins (InitialReset k) h = absurd h
trace_cut f all p initial inputs before after text begins Device h = begins h
trace_cut f all p initial inputs before after text begins (OutOfMemory refused) h = tt
