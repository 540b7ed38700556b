-- How the texts of stimuli are read, step by step.
use Rattle.std.specs.Prelude.{ℕ, Bool, true, false, List, Option, Some, None, codes}
use Rattle.scan.specs.Reading.{◌>>=◌, Read}
use Rattle.scan.specs.Bytes.{byte_at, choice_at, tag_at}
use Rattle.scan.specs.Lists.{items_at}
use Rattle.scan.specs.Words.{any, field_at}
use Rattle.graph.specs.declared.circuit.Property.{Property}
use Rattle.graph.specs.declared.circuit.Property.TheVariants.{Bad, Justice, Output}
use Rattle.stimulus.specs.declared.value.Stimulus.{Stimulus}
use Rattle.stimulus.specs.declared.value.Stimulus.TheVariants.{Holds, Violated, Unknown}

-- nothing is read
abbrev pub never_at : {A : Type 0} → List ℕ → Read A
never_at bytes = None

-- the number of a property, and its line end
unfoldable pub bad_at : List ℕ → Read Property
bad_at bytes = field_at 4294967295 any 10 bytes >>= λ n. Some (Bad n.0, n.1)

unfoldable pub justice_at : List ℕ → Read Property
justice_at bytes = field_at 4294967295 any 10 bytes >>= λ n. Some (Justice n.0, n.1)

unfoldable pub output_at : List ℕ → Read Property
output_at bytes = field_at 4294967295 any 10 bytes >>= λ n. Some (Output n.0, n.1)

-- a property's line
unfoldable pub property_at : List ℕ → Read Property
property_at bytes = choice_at 98 bad_at (choice_at 106 justice_at (choice_at 111 output_at never_at)) bytes

-- the line end behind the status, and the property's line
unfoldable pub heading_at : List ℕ → Read Property
heading_at bytes = byte_at 10 bytes >>= property_at

-- what follows the status of a stimulus without a run
unfoldable pub concluded_at : List ℕ → Read Property
concluded_at bytes = heading_at bytes >>= λ property. (tag_at (codes ".\n") property.1 >>= λ rest. Some (property.0, rest))

-- a value, and the line end behind the last
unfoldable pub value_at : List ℕ → Read (Option Bool)
value_at bytes =
    choice_at 48 (λ rest. Some (Some false, rest))
    (choice_at 49 (λ rest. Some (Some true, rest)) (choice_at 10 (λ rest. Some (None, rest)) never_at)) bytes

-- a line of values, or the dot's line behind the last
unfoldable pub line_at : List ℕ → Read (Option (List Bool))
line_at bytes =
    choice_at 46 (λ rest. byte_at 10 rest >>= λ after. Some (None, after))
    (λ begin. items_at value_at begin >>= λ values. Some (Some values.0, values.1)) bytes

-- what follows the status of a stimulus with a run
unfoldable pub violated_at : List ℕ → Read Stimulus
violated_at bytes = do
  property ← heading_at bytes
  initial ← items_at value_at property.1
  inputs ← items_at line_at initial.1
  Some (Violated property.0 initial.0 inputs.0, inputs.1)

-- what follows the status 0, and the status 2
unfoldable pub holds_at : List ℕ → Read Stimulus
holds_at bytes = concluded_at bytes >>= λ property. Some (Holds property.0, property.1)

unfoldable pub unknown_at : List ℕ → Read Stimulus
unknown_at bytes = concluded_at bytes >>= λ property. Some (Unknown property.0, property.1)

-- a stimulus
unfoldable pub stimulus_at : List ℕ → Read Stimulus
stimulus_at bytes = choice_at 48 holds_at (choice_at 49 violated_at (choice_at 50 unknown_at never_at)) bytes
