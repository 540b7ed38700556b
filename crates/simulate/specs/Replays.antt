-- Replaying a circuit, one time after another.
use Rattle.std.specs.Prelude.{◌≡◌, Bool, List, Option, Some, None}
use Rattle.graph.specs.declared.parts.Parts.{Parts}
use Rattle.graph.specs.Circuits.{Valuation, Agrees, state_of, inputs_of, next_state}

-- a circuit, the state of the next time, and the valuation of the time before it
pub record Replayed : Type 0 where
  pub circuit : Parts
  pub state : List Bool
  pub now : Option Valuation

-- no time has passed
abbrev pub begun : Parts → List Bool → Replayed
begun m state = record { circuit = m; state = state; now = None }

-- the valuation is the one that agrees with the circuit, this state and these inputs
pub record IsTheValuation (m : Parts) (state inputs : List Bool) (w : Valuation) : Type 0 where
  pub agrees : Agrees m w
  pub has_state : state_of m w ≡ state
  pub has_inputs : inputs_of m w ≡ inputs
  pub only : (x : Valuation) → Agrees m x → state_of m x ≡ state → inputs_of m x ≡ inputs → x ≡ w

-- one time passes: the one valuation of the state and the inputs, and the next state
pub record Steps (before after : Replayed) (inputs : List Bool) : Type 0 where
  pub now : Valuation
  pub is_now : after.now ≡ Some now
  pub evaluates : IsTheValuation before.circuit before.state inputs now
  pub moves : after.state ≡ next_state before.circuit now
  pub circuit : after.circuit ≡ before.circuit
