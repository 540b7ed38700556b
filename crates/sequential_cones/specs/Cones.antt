-- What a literal and the constraints rest on, at any time.
use Rattle.std.specs.Prelude.{Bool, true, ◌&&◌, List, [], ◌∷◌, All}
use Rattle.graph.specs.declared.circuit.Lit.{Lit}
use Rattle.graph.specs.declared.parts.Parts.{Parts}
use Rattle.graph.specs.Circuits.{variable, place}
use Rattle.cones.specs.Marks.{IsMarked, IsCone}

-- the constant, the literal and the constraints are of the cone, and with a gate its right sides, and with a latch its next literal
pub record IsConeOf (m : Parts) (watched : Lit) (marks : List Bool) : Type 0 where
  pub constant : IsMarked marks 0
  pub root : IsMarked marks (variable watched)
  pub constraints : All (λ a. IsMarked marks (variable a)) m.constraints
  pub gates : IsCone m (IsMarked marks)
  pub latches : All (λ l. IsMarked marks (variable l.lit) → IsMarked marks (variable l.next)) m.latches

-- all literals of the clause are of the cone
abbrev pub is_over : List Bool → List Lit → Bool
is_over marks [] = true
is_over marks (a ∷ lits) = place marks (variable a) && is_over marks lits
