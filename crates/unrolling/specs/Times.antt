-- The times of a circuit in a solver.
use Rattle.std.specs.Prelude.{◌≡◌, ℕ, ◌+◌, ◌*◌, ◌≤◌, List, length, All, ℤ}
use Rattle.graph.specs.declared.parts.Parts.{Parts}
use Rattle.lrat.specs.Literals.{IsLiteral}
use Rattle.unrolling.specs.declared.cone.Cone.{Cone}
use Rattle.unrolling.specs.declared.unrolling.Unrolling.{Unrolling}
use Rattle.unrolling.specs.Demands.{AreGiven}
use Rattle.unrolling.specs.Unrollings.{Leaves, IsUnrolled}

abbrev pub leaves_of : Unrolling → Leaves
leaves_of u = record { initial = u.initial.items; firsts = u.firsts.items }

-- the clauses are those of the times so far, as far as they are asked for, and the table has room for the next
pub record IsAt (m : Parts) (c : Cone) (u : Unrolling) (cs : List (List ℤ)) : Type 0 where
  pub unrolled : IsUnrolled m c (leaves_of u) u.state.items u.encoder cs
  pub whole : length u.table.items ≡ m.max_var + 1
  pub literals : All (IsLiteral u.encoder.variables) u.table.items
  pub given : AreGiven u.encoder u.given.items cs

-- there are variables for this number of times more
abbrev pub HasRoom : Cone → ℕ → Unrolling → ℕ → Type 0
HasRoom c times u vars = u.encoder.variables + times * (length c.inputs.items + length c.cells.items) ≤ vars
