-- What the search comes to (Bradley 2011).
use Rattle.std.specs.Prelude.{ℕ, ◌≤◌}
use Rattle.graph.specs.declared.circuit.Property.TheVariants.{Bad}
use Rattle.graph.specs.declared.parts.Parts.{Parts}
use Rattle.engine.specs.Bounds.{IsClear}
use Rattle.engine.specs.declared.finding.Finding.{Finding}
use Rattle.ic3_frames.specs.Frames.{Levels}
use Rattle.ic3_blocking.specs.Answers.{ComesOf}

-- no run of at most this number of steps sets the bad literal, and they are a thousand million or more
pub record IsDeep (m : Parts) (steps : ℕ) : Type 0 where
  pub clear : IsClear m (Bad 0) steps
  pub many : 1000000000 ≤ steps

-- frames come to it
abbrev pub IsDecided : Parts → Finding → Type 0
IsDecided m found = (f : Levels) × ComesOf m f found
