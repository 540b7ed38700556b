-- Which literals can be carried over.
use Rattle.std.specs.Prelude.{◌<◌, List, length, All}
use Rattle.graph.specs.declared.circuit.Lit.{Lit}
use Rattle.graph.specs.declared.parts.Parts.{Parts}
use Rattle.graph.specs.Circuits.{variable}
use Rattle.shrink.specs.Hashed.{image_of}

-- the literal's variable has a place, and what it is carried to has a negation
pub record IsCarriable (image : List Lit) (a : Lit) : Type 0 where
  pub in_range : variable a < length image
  pub room : (image_of image (variable a)).0 < 4294967295

-- all literals of the circuit but the gates'
pub record AreCarriable (m : Parts) (image : List Lit) : Type 0 where
  pub inputs : All (IsCarriable image) m.inputs
  pub latches : All (λ l. IsCarriable image l.lit × IsCarriable image l.next) m.latches
  pub outputs : All (IsCarriable image) m.outputs
  pub bad : All (IsCarriable image) m.bad
  pub constraints : All (IsCarriable image) m.constraints
  pub justice : All (All (IsCarriable image)) m.justice
  pub fairness : All (IsCarriable image) m.fairness
