-- Tables of the values in a replay, a line for each time.
use Rattle.std.specs.Prelude.{◌≡◌, ℕ, ◌+◌, Bool, List, [], ◌∷◌, ◌++◌, length, map, Option, codes, decimal, flat_map}
use Rattle.std.specs.Io.KnownBytes.{Appends}
use Rattle.base.specs.Devices.{PutsBeginning}
use Rattle.graph.specs.declared.parts.Parts.{Parts}
use Rattle.graph.specs.Circuits.{Valuation, value_of, state_of, inputs_of, IsRun}
use Rattle.simulate.specs.Starts.{Starts, IsFirstAgainst}
use Rattle.stimulus.specs.declared.value.Stimulus.{Stimulus}
use Rattle.stimulus.specs.declared.value.Stimulus.TheVariants.{Holds, Violated, Unknown}
use Rattle.stimulus.specs.declared.sim_error.SimError.{SimError}
use Rattle.stimulus.specs.declared.sim_error.SimError.TheVariants.{NotViolated, LineLength, NoInputLine, InitialReset, Device, OutOfMemory}
use Rattle.stimulus.specs.Texts.{value_text}
use Rattle.stimulus.specs.Shown.{IsReplay, Replays, closing_state}
use Rattle.stimulus.specs.Causes.{HasFitLines, IsPlayable, IsWrongLine}

-- the values one after another, or `-` where there are none
abbrev pub digits_text : List Bool → List ℕ
digits_text [] = codes "-"
digits_text (value ∷ values) = flat_map value_text (value ∷ values)

-- a space, and the values
abbrev pub field_text : List Bool → List ℕ
field_text values = codes " " ++ digits_text values

-- a time, and the state at it
abbrev pub time_text : ℕ → List Bool → List ℕ
time_text t state = decimal t ++ field_text state

-- the inputs, the outputs and the bad literals at a time, and a line end
abbrev pub values_text : Parts → Valuation → List ℕ
values_text m w = field_text (inputs_of m w) ++ (field_text (map (value_of w) m.outputs) ++ (field_text (map (value_of w) m.bad) ++ codes "\n"))

-- TIME STATE INPUTS OUTPUTS BAD
abbrev pub row_text : Parts → ℕ → Valuation → List ℕ
row_text m t w = time_text t (state_of m w) ++ values_text m w

-- a row for each valuation, from a time on
abbrev pub rows_text : Parts → ℕ → List Valuation → List ℕ
rows_text m t [] = []
rows_text m t (w ∷ r) = row_text m t w ++ rows_text m (t + 1) r

-- a row for each time of a replay, and TIME STATE for the state after the last
abbrev pub table_text : Parts → List Valuation → List ℕ
table_text m r = rows_text m 0 r ++ (time_text (length r) (closing_state m r) ++ codes "\n")

-- the table of the one replay, which is a run, was put
pub record PutsTable (m : Parts) (s : Stimulus) (before after : Option (List ℕ)) : Type 0 where
  pub replay : List Valuation
  pub replays : Replays m s replay
  pub only : (x : List Valuation) → Replays m s x → x ≡ replay
  pub runs : IsRun m replay
  pub appends : Appends before after (table_text m replay)

-- no cause stands, and after the sink's failure a beginning of the table of the replay was put
pub record IsCutOff (m : Parts) (initial : List Bool) (inputs : List (List Bool)) (before after : Option (List ℕ)) : Type 0 where
  pub playable : IsPlayable m initial inputs
  pub starts : Starts m.latches initial
  pub begins : (r : List Valuation) → IsReplay m initial inputs r → PutsBeginning before after (table_text m r)

-- the reason for which there is no table of the lines stands, and none that comes before it: no violation, a line's
-- length, no input line, a latch against its reset
abbrev pub HasSimCauseIn : Parts → List Bool → List (List Bool) → Option (List ℕ) → Option (List ℕ) → SimError → Type 0
HasSimCauseIn m initial inputs before after NotViolated = ⊥
HasSimCauseIn m initial inputs before after (LineLength k) = IsWrongLine m initial inputs k
HasSimCauseIn m initial inputs before after NoInputLine = HasFitLines m initial inputs × (inputs ≡ [])
HasSimCauseIn m initial inputs before after (InitialReset k) = IsPlayable m initial inputs × IsFirstAgainst m.latches initial k
HasSimCauseIn m initial inputs before after Device = IsCutOff m initial inputs before after
HasSimCauseIn m initial inputs before after (OutOfMemory refused) = Unit {0}

-- the reason for which there is no table of the stimulus stands
abbrev pub HasSimCause : Parts → Stimulus → Option (List ℕ) → Option (List ℕ) → SimError → Type 0
HasSimCause m (Violated p initial inputs) before after e = HasSimCauseIn m initial inputs before after e
HasSimCause m (Holds p) before after e = e ≡ NotViolated
HasSimCause m (Unknown p) before after e = e ≡ NotViolated
