-- What an AIGER file says.
use Rattle.std.specs.Prelude.{ℕ, List, Option}
use Rattle.graph.specs.declared.parts.Parts.{Parts}
use Rattle.graph.specs.declared.symbol.Symbol.{Symbol}

-- a circuit, names of its literals, and a comment
pub record File : Type 0 where
  pub model : Parts
  pub symbols : List Symbol
  pub comment : Option (List ℕ)
