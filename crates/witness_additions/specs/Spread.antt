-- What clauses say of a witness's literals.
use Rattle.std.specs.Prelude.{◌≡◌, ℕ, Bool, not, ◌&&◌, List, map, take, drop, All}
use Rattle.graph.specs.declared.circuit.Lit.{Lit}
use Rattle.graph.specs.declared.circuit.Gate.{Gate}
use Rattle.graph.specs.Circuits.{Valuation, value_of, Fires}
use Rattle.witness_circuits.specs.Witnesses.{are_true}
use Rattle.witness_pairs.specs.Drafts.{all_true}
use Rattle.witness_pairs.specs.Renamed.{renamed}

-- both have the same value, wherever each gate has that of the conjunction of its right sides
abbrev pub AreSame : List Gate → (Valuation → Bool) → (Valuation → Bool) → Type 0
AreSame gates f g = (w : Valuation) → All (Fires w) gates → f w ≡ g w

-- the literal has the value of the conjunction of two others there
abbrev pub IsBoth : List Gate → Lit → Lit → Lit → Type 0
IsBoth gates a one other = AreSame gates (λ w. value_of w a) (λ w. value_of w one && value_of w other)

-- there the first n clauses are true exactly where what stands for the bad literal is 0, and the other ones exactly where
-- all that stands for constraints is 1
pub record AreWanted (names : List Lit) (gates : List Gate) (bad : Lit) (constraints : List Lit) (n : ℕ) (inv : List (List Lit)) : Type 0 where
  pub of_property : AreSame gates (λ w. are_true w (take n inv)) (λ w. not (value_of w (renamed names bad)))
  pub of_constraints : AreSame gates (λ w. are_true w (drop n inv)) (λ w. all_true w (map (renamed names) constraints))
