-- Clauses under guards, and times.
use Rattle.std.specs.Prelude.{◌≡◌, ℕ, ◌<◌, ◌⊎◌, Bool, true, List, ◌++◌, length, All, Contains}
use Rattle.graph.specs.declared.circuit.Lit.{Lit}
use Rattle.graph.specs.declared.parts.Parts.{Parts}
use Rattle.graph.specs.Circuits.{Valuation, variable, place, value_of, defined, state_of, inputs_of}
use Rattle.cones.specs.Marks.{IsMarked, IsCone}
use Rattle.states.specs.declared.state_lit.StateLit.{StateLit}
use Rattle.states.specs.States.{Holds, IsTime}
use Rattle.ic3_step.specs.declared.assignment.Assignment.{Assignment}

-- a clause over states, and the guard under which it holds
pub record Guarded : Type 0 where
  pub guard : ℕ
  pub clause : List StateLit

-- of the guarded clauses, those of these guards hold in the state
abbrev pub HoldsGuarded : List Guarded → List ℕ → List Bool → Type 0
HoldsGuarded gs guards s = All (λ (g : Guarded). Contains guards g.guard → Holds s g.clause) gs

-- these are the valuation's values of the constant and of a cone that has the literals and the constraints, at their places
pub record AreValues (m : Parts) (lits : List Lit) (w : Valuation) (values : List Bool) : Type 0 where
  pub cone : List Bool
  pub closed : IsCone m (IsMarked cone)
  pub asked : All (λ a. IsMarked cone (variable a)) (lits ++ m.constraints)
  pub places : m.max_var < length values
  pub same : (v : ℕ) → (v ≡ 0) ⊎ (Contains (defined m) v × IsMarked cone v) → place values v ≡ place w v

-- the valuation is a time with this state and these inputs, and with these values of what the literals are made of
pub record IsAt (m : Parts) (lits : List Lit) (w : Valuation) (t : Assignment) : Type 0 where
  pub is_time : IsTime m w
  pub state : state_of m w ≡ t.state
  pub inputs : inputs_of m w ≡ t.inputs
  pub values : AreValues m lits w t.values

-- each of the literals is true
abbrev pub AllSet : Valuation → List Lit → Type 0
AllSet w lits = All (λ a. value_of w a ≡ true) lits
