-- The strict stimulus of a loose text.
use Rattle.std.specs.Prelude.{◌≡◌, ◌⊎◌, Bool, true, false, List, [], ◌∷◌, length, map, replicate, Option, None, Some, All, Contains}
use Rattle.graph.specs.declared.circuit.Property.{Property}
use Rattle.graph.specs.declared.parts.Parts.{Parts}
use Rattle.graph.specs.Circuits.{HasProperty}
use Rattle.stimulus.specs.declared.value.Stimulus.{Stimulus}
use Rattle.stimulus.specs.declared.value.Stimulus.TheVariants.{Holds, Violated, Unknown}
use Rattle.stimulus.specs.Texts.{property_of}
use Rattle.stimulus.specs.Shown.{Shows}
use Rattle.witness.specs.Completions.{CompleteFirst, completion}
use Rattle.witness.specs.Cutting.{NeverShows}
use Rattle.witness.specs.declared.loose.Loose.{Loose}
use Rattle.witness.specs.declared.witness_error.WitnessError.{WitnessError}
use Rattle.witness.specs.declared.witness_error.WitnessError.TheVariants.{NoViolation, Property as NoProperty, Character, Truncated, LineLength, NotShown, OutOfMemory}

-- the stimulus has each value that the rows give, up to its last time: the first row is its first state, or all rows are inputs
abbrev pub HasValues : List (List (Option Bool)) → Stimulus → Type 0
HasValues rows (Holds property) = ⊥
HasValues rows (Violated property initial inputs) = CompleteFirst rows (initial ∷ inputs) ⊎ CompleteFirst rows inputs
HasValues rows (Unknown property) = ⊥

-- the stimulus shows the violation of a property that is asked for, and has each value that the rows give
pub record IsStrict (m : Parts) (rows : List (List (Option Bool))) (asked : List Property) (s : Stimulus) : Type 0 where
  pub shows : Shows m s
  pub asked_for : Contains asked (property_of s)
  pub has_values : HasValues rows s

-- the properties that the circuit has
pub record AreAll (m : Parts) (ps : List Property) : Type 0 where
  pub each : (p : Property) → HasProperty m p → Contains ps p
  pub only : All (HasProperty m) ps

-- the property that is chosen, or those that are named, or where none is all of the circuit
abbrev pub AreAsked : Parts → Option Property → List Property → List Property → Type 0
AreAsked m (Some p) named asked = asked ≡ p ∷ []
AreAsked m None [] asked = AreAll m asked
AreAsked m None (p ∷ ps) asked = asked ≡ p ∷ ps

-- with this value in place of each that doesn't matter, but in the first state a latch's reset, the first rows, however many, do not show
-- the violation
abbrev pub ShowsNone : Parts → Property → List (Option Bool) → List (List (Option Bool)) → Bool → Type 0
ShowsNone m p state rows other = NeverShows m p (completion m.latches other state) (map (completion [] other) rows)

-- neither with 0 nor with 1 in place of what doesn't matter
abbrev pub ShowsNeither : Parts → Property → List (Option Bool) → List (List (Option Bool)) → Type 0
ShowsNeither m p state rows = ShowsNone m p state rows false × ShowsNone m p state rows true

-- not with the first row as the first state
abbrev pub IsDeniedWithState : Parts → Property → List (List (Option Bool)) → Type 0
IsDeniedWithState m p [] = Unit {0}
IsDeniedWithState m p (state ∷ rows) = ShowsNeither m p state rows

-- not with all rows as inputs, and no value of the first state
abbrev pub IsDeniedByInputs : Parts → Property → List (List (Option Bool)) → Type 0
IsDeniedByInputs m p rows = ShowsNeither m p (replicate (length m.latches) None) rows

-- no choice of what doesn't matter shows the property's violation with its first rows, by any reading of them
pub record IsDenied (m : Parts) (loose : Loose) (p : Property) : Type 0 where
  pub with_state : loose.has_state ≡ true → IsDeniedWithState m p loose.rows
  pub inputs_alone : (loose.has_state ≡ false) ⊎ (loose.has_inputs_alone ≡ true) → IsDeniedByInputs m p loose.rows

-- why there is no strict stimulus: no choice shows the violation of any property that is asked for with its first rows, or out of memory
abbrev pub IsRefused : Parts → Loose → List Property → WitnessError → Type 0
IsRefused m loose asked (NoViolation place) = ⊥
IsRefused m loose asked (NoProperty place) = ⊥
IsRefused m loose asked (Character place) = ⊥
IsRefused m loose asked (Truncated place) = ⊥
IsRefused m loose asked (LineLength place) = ⊥
IsRefused m loose asked (NotShown e) = All (IsDenied m loose) asked
IsRefused m loose asked (OutOfMemory refused) = Unit {0}
