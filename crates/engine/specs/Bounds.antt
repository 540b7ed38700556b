-- Bad literals that short runs don't set (bounded model checking, Biere, Cimatti, Clarke, Zhu 1999).
use Rattle.std.specs.Prelude.{◌≡◌, ℕ, ◌+◌, ◌≤◌, false, List, length, All}
use Rattle.graph.specs.declared.circuit.Lit.{Lit}
use Rattle.graph.specs.declared.circuit.Property.{Property}
use Rattle.graph.specs.declared.parts.Parts.{Parts}
use Rattle.graph.specs.Circuits.{IsWatched, Valuation, value_of, IsRun, KeepsConstraints}

-- no run of at most this number of times that keeps the constraints sets the literal that the property watches
abbrev pub IsUnsetFor : Parts → Property → ℕ → Type 0
IsUnsetFor m p times = (r : List Valuation) (a : Lit) → IsRun m r → KeepsConstraints m r → length r ≤ times → IsWatched m p a →
    All (λ w. value_of w a ≡ false) r

-- no run of at most this number of steps does
abbrev pub IsClear : Parts → Property → ℕ → Type 0
IsClear m p steps = IsUnsetFor m p (steps + 1)
