-- The lines of a stimulus that shows a violation.
use Rattle.std.specs.Prelude.{◌≡◌, Bool, List}
use Rattle.graph.specs.declared.circuit.Property.{Property}
use Rattle.stimulus.specs.declared.value.Stimulus.{Stimulus}
use Rattle.stimulus.specs.declared.value.Stimulus.TheVariants.{Violated}

-- it shows a violation of this property, with these first values of the latches and these lines of inputs
abbrev pub HasLines : Stimulus → Property → List Bool → List (List Bool) → Type 0
HasLines stimulus p initial inputs = stimulus ≡ Violated p initial inputs
