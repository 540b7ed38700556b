-- What a certificate over an extended circuit holds.
use Rattle.std.specs.Prelude.{ℕ, List}
use Rattle.graph.specs.declared.circuit.Lit.{Lit}
use Rattle.graph.specs.declared.circuit.Latch.{Latch}
use Rattle.graph.specs.declared.circuit.Gate.{Gate}
use Rattle.lrat.specs.declared.line.Line.{Line}

-- what a certificate has beside its property: further latches and gates, clauses over all variables then, and three proofs,
-- the first two with hints that show each clause in the end
pub record Evidence : Type 0 where
  pub latches : List Latch
  pub gates : List Gate
  pub invariant : List (List Lit)
  pub first : List Line
  pub first_hints : List (List ℕ)
  pub step : List Line
  pub step_hints : List (List ℕ)
  pub last : List Line
