-- Replays of stimuli, and the violations that they show (AIGER 1.9, Biere, Heljanko, Wieringa 2011; HWMCC's stimuli).
use Rattle.std.specs.Prelude.{◌≡◌, ℕ, ◌-◌, ◌<◌, ◌⊎◌, Bool, true, List, [], ◌∷◌, map, length, All}
use Rattle.graph.specs.declared.circuit.Lit.{Lit}
use Rattle.graph.specs.declared.circuit.Property.TheVariants.{Justice}
use Rattle.graph.specs.declared.parts.Parts.{Parts}
use Rattle.graph.specs.Circuits.{IsWatched, Valuation, value_of, Agrees, state_of, inputs_of, next_state, Steps, IsRun, KeepsConstraints, wanted_of, at, IsSetWithin}
use Rattle.stimulus.specs.declared.value.Stimulus.{Stimulus}
use Rattle.stimulus.specs.declared.value.Stimulus.TheVariants.{Holds, Violated, Unknown}
use Rattle.stimulus.specs.Texts.{property_of}

-- there is a first valuation, and it has this state
abbrev pub Begins : Parts → List Bool → List Valuation → Type 0
Begins m initial [] = ⊥
Begins m initial (w ∷ r) = state_of m w ≡ initial

-- agreeing valuations, one for each input line and one at least: the first has the given state, their inputs are the
-- lines, and neighbours are in a step; so the lines are as long as the circuit has latches and inputs
pub record IsReplay (m : Parts) (initial : List Bool) (inputs : List (List Bool)) (r : List Valuation) : Type 0 where
  pub agrees : All (Agrees m) r
  pub begins : Begins m initial r
  pub has_inputs : map (inputs_of m) r ≡ inputs
  pub steps : Steps m r

-- the replay of a stimulus, which tells of a violation
abbrev pub Replays : Parts → Stimulus → List Valuation → Type 0
Replays m (Violated property initial inputs) r = IsReplay m initial inputs r
Replays m (Holds property) r = ⊥
Replays m (Unknown property) r = ⊥

-- the valuation at the last time
abbrev pub last_of : List Valuation → Valuation
last_of r = at r (length r - 1)

-- the state after the last time
abbrev pub closing_state : Parts → List Valuation → List Bool
closing_state m r = next_state m (last_of r)

-- the property watches a literal; the replay is a run that keeps the constraints, and sets it at its last time
pub record ShowsBad (m : Parts) (s : Stimulus) : Type 0 where
  pub bad : Lit
  pub replay : List Valuation
  pub watched : IsWatched m (property_of s) bad
  pub replays : Replays m s replay
  pub runs : IsRun m replay
  pub keeps : KeepsConstraints m replay
  pub sets : value_of (last_of replay) bad ≡ true

-- at this time the state is the closing one, and each wanted literal is set at a time from this one on
pub record ClosesLasso (m : Parts) (wanted : List Lit) (closing : List Bool) (r : List Valuation) (start : ℕ) : Type 0 where
  pub inside : start < length r
  pub closes : state_of m (at r start) ≡ closing
  pub sets : All (IsSetWithin r start (length r)) wanted

-- the property is a justice property that there is; the replay is a run that keeps the constraints, and from some time
-- on it is a lasso: the state there is that after the last time, and each wanted literal is set
pub record ShowsLasso (m : Parts) (s : Stimulus) : Type 0 where
  pub position : ℕ
  pub start : ℕ
  pub replay : List Valuation
  pub names : property_of s ≡ Justice position
  pub exists : position < length m.justice
  pub replays : Replays m s replay
  pub runs : IsRun m replay
  pub keeps : KeepsConstraints m replay
  pub lasso : ClosesLasso m (wanted_of m position) (closing_state m replay) replay start

-- the stimulus shows that its property is violated
abbrev pub Shows : Parts → Stimulus → Type 0
Shows m s = ShowsBad m s ⊎ ShowsLasso m s
