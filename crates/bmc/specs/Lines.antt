-- The inputs that are read from a model, time by time.
use Rattle.std.specs.Prelude.{◌≡◌, ℕ, ◌+◌, ◌<◌, Bool, List, [], length, slice_index_or}
use Rattle.graph.specs.declared.parts.Parts.{Parts}
use Rattle.graph.specs.Circuits.{place}
use Rattle.solver.specs.Answers.{values}
use Rattle.unrolling.specs.declared.cone.Cone.{Cone}

-- a value for each input of the circuit, the cone's being those of the variables behind the first ones
pub record IsLine (m : Parts) (c : Cone) (b : List Bool) (first : ℕ) (line : List Bool) : Type 0 where
  pub whole : length line ≡ length m.inputs
  pub inputs : (k : ℕ) → k < length c.inputs.items → place line (slice_index_or c.inputs.items k 0) ≡ values b (first + (k + 1))

-- a line for each time
pub record AreLines (m : Parts) (c : Cone) (b : List Bool) (firsts : List ℕ) (lines : List (List Bool)) : Type 0 where
  pub whole : length lines ≡ length firsts
  pub each : (t : ℕ) → t < length firsts → IsLine m c b (slice_index_or firsts t 0) (slice_index_or lines t [])
