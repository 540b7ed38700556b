-- Clauses over what a literal and the constraints rest on, at any time.
use Rattle.std.specs.Prelude.{◌≡◌, Bool, List, filter, Option, None, slice_get}
use Rattle.graph.specs.declared.circuit.Lit.{Lit}
use Rattle.graph.specs.declared.circuit.Property.{Property}
use Rattle.graph.specs.declared.circuit.Property.TheVariants.{Bad, Justice, Output}
use Rattle.graph.specs.declared.parts.Parts.{Parts}
use Rattle.sequential_cones.specs.Cones.{IsConeOf, is_over}

-- the answered clauses are those of the given ones, in their order, whose literals are all of a cone of the literal
pub record AreOverCone (m : Parts) (watched : Lit) (given answered : List (List Lit)) : Type 0 where
  pub marks : List Bool
  pub cone : IsConeOf m watched marks
  pub only : answered ≡ filter (is_over marks) given

-- the literal at the property's position among those of its kind; a justice property has none
abbrev pub literal_of : Parts → Property → Option Lit
literal_of m (Bad n) = slice_get m.bad n
literal_of m (Justice n) = None
literal_of m (Output n) = slice_get m.outputs n
