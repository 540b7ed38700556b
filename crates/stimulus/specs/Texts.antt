-- Texts of stimuli (the layout of the hardware model checking competition).
use Rattle.std.specs.Prelude.{◌≡◌, ℕ, ◌<◌, ◌^◌, Bool, List, ◌++◌, codes, flat_map, if◌then◌else◌}
use Rattle.graph.specs.declared.circuit.Property.{Property}
use Rattle.graph.specs.Circuits.{position_of, property_text}
use Rattle.stimulus.specs.declared.value.Stimulus.{Stimulus}
use Rattle.stimulus.specs.declared.value.Stimulus.TheVariants.{Holds, Violated, Unknown}

-- the property of which a stimulus speaks
abbrev pub property_of : Stimulus → Property
property_of (Holds property) = property
property_of (Violated property initial inputs) = property
property_of (Unknown property) = property

-- a 0 or a 1
abbrev pub value_text : Bool → List ℕ
value_text value = if value then codes "1" else codes "0"

-- the values one after another, and a line end
abbrev pub line_text : List Bool → List ℕ
line_text values = flat_map value_text values ++ codes "\n"

-- the property and a line end
abbrev pub property_line : Property → List ℕ
property_line property = property_text property ++ codes "\n"

-- a 1, the property, the values of the latches, those of the inputs at each time, and a dot, a line each
abbrev pub violated_text : Property → List Bool → List (List Bool) → List ℕ
violated_text property initial inputs =
    codes "1\n" ++ property_line property ++ line_text initial ++ flat_map line_text inputs ++ codes ".\n"

-- a 0, a 1 or a 2, the property, for a 1 the values of a run, and a dot, a line each
abbrev pub stimulus_text : Stimulus → List ℕ
stimulus_text (Holds property) = codes "0\n" ++ property_line property ++ codes ".\n"
stimulus_text (Violated property initial inputs) = violated_text property initial inputs
stimulus_text (Unknown property) = codes "2\n" ++ property_line property ++ codes ".\n"

-- the text is the stimulus's, whose property has a number in its limit
pub record SpellsStimulus (text : List ℕ) (s : Stimulus) : Type 0 where
  pub spells : text ≡ stimulus_text s
  pub within : position_of (property_of s) < 2 ^ 32
