-- What is kept of 256 runs.
use Rattle.std.specs.Prelude.{ℕ, List}
use Rattle.graph.specs.declared.parts.Parts.{Parts}
use Rattle.simulate.specs.Wides.{WideReplayed}

-- a circuit, its runs as they are replayed, and those that are still in
pub record Played : Type 0 where
  pub circuit : Parts
  pub wide : WideReplayed
  pub running : List ℕ
