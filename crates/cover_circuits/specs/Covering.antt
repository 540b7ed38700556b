-- Circuits that are violated by how long a run is.
use Rattle.std.specs.Prelude.{◌≡◌, ℕ, zero, suc, ◌+◌, ◌<◌, ◌↔◌, Bool, true, List, [], ◌∷◌, ◌++◌, length, map, take}
use Rattle.graph.specs.declared.circuit.Lit.{Lit}
use Rattle.graph.specs.declared.circuit.Latch.{Latch}
use Rattle.graph.specs.declared.circuit.Property.{Property}
use Rattle.graph.specs.declared.circuit.Property.TheVariants.{Bad}
use Rattle.graph.specs.declared.parts.Parts.{Parts}
use Rattle.graph.specs.Circuits.{at, IsWatched, IsRun, KeepsConstraints, Valuation, value_of}
use Rattle.graph.specs.WellFormed.{only_bad}
use Rattle.stimulus.specs.declared.value.Stimulus.TheVariants.{Violated}
use Rattle.stimulus.specs.Shown.{IsReplay, ShowsBad}
use Rattle.live_safe.specs.Shadow.{positive, cleared}
use Rattle.extension.specs.Extended.{extended}
use Rattle.extension.specs.Rounds.{always}

-- a run of the circuit that keeps the constraints and sets the literal that the property watches
pub record Violates (m : Parts) (p : Property) (r : List Valuation) : Type 0 where
  pub runs : IsRun m r
  pub keeps : KeepsConstraints m r
  pub bad : Lit
  pub watched : IsWatched m p bad
  pub time : ℕ
  pub inside : time < length r
  pub sets : value_of (at r time) bad ≡ true

-- the second circuit's bad literal is violated by exactly the runs of the first that keep the constraints
abbrev pub IsAlwaysBad : Parts → Parts → Type 0
IsAlwaysBad m covered = (r : List Valuation) → Violates covered (Bad 0) r ↔ (IsRun m r × KeepsConstraints m r)

-- what is set from so many steps on: the constant true, or the last of the latches
abbrev pub step_literal : ℕ → ℕ → Lit
step_literal v zero = always
step_literal v (suc n) = positive (v + n)

-- latches that are reset to 0, of which each has the value that the one before had a step ago, and the first is set then
abbrev pub step_latches : ℕ → ℕ → List Latch
step_latches v zero = []
step_latches v (suc n) = step_latches v n ++ cleared (v + n) (step_literal v n) ∷ []

-- the circuit with so many of those latches, and with the last of them as its one bad literal
abbrev pub behind : Parts → ℕ → Parts
behind m steps = only_bad (extended m (step_latches (m.max_var + 1) steps) []) (step_literal (m.max_var + 1) steps)

-- the second circuit's bad literal is violated by exactly the runs of the first of more times than so many steps: each run of
-- the first that keeps the constraints is, without the further variables, one of the second, and violates it exactly where
-- it is so long
pub record IsBadBehind (m covered : Parts) (steps : ℕ) : Type 0 where
  pub carried : (r : List Valuation) → IsRun m r → KeepsConstraints m r →
      (s : List Valuation) × IsRun covered s × KeepsConstraints covered s × (map (take (m.max_var + 1)) s ≡ r)
  pub restricted : (s : List Valuation) → IsRun covered s → KeepsConstraints covered s →
      IsRun m (map (take (m.max_var + 1)) s) × KeepsConstraints m (map (take (m.max_var + 1)) s)
  pub exact : (s : List Valuation) → IsRun covered s → KeepsConstraints covered s → Violates covered (Bad 0) s ↔ (steps < length s)

-- a stimulus that violates the second circuit's bad literal has the inputs of a run of the first that keeps the constraints
-- for so many steps, which begins with the first of its values
abbrev pub ShowsRun : Parts → Parts → ℕ → Type 0
ShowsRun m covered steps = (initial : List Bool) (lines : List (List Bool)) → ShowsBad covered (Violated (Bad 0) initial lines) →
    (r : List Valuation) × IsReplay m (take (length m.latches) initial) lines r × IsRun m r × KeepsConstraints m r × (steps < length r)
