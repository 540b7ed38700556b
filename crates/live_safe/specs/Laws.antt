-- How violations of a circuit and of its shadow circuit answer to each other (Biere, Artho, Schuppan 2002).
use Rattle.std.specs.Prelude.{◌≡◌, ℕ, ◌+◌, ◌-◌, ◌<◌, ◌≤◌, ◌==◌, Bool, true, false, List, [], ◌∷◌, ◌++◌, length, map, take, slice_index_or, All}
use Rattle.graph.specs.declared.circuit.Property.TheVariants.{Bad, Justice}
use Rattle.graph.specs.declared.parts.Parts.{Parts}
use Rattle.graph.specs.Circuits.{Valuation, value_of, state_of, inputs_of, IsRun, KeepsConstraints, IsSafe, at, IsBounded}
use Rattle.stimulus.specs.declared.value.Stimulus.{Stimulus}
use Rattle.stimulus.specs.declared.value.Stimulus.TheVariants.{Violated}
use Rattle.stimulus.specs.Shown.{ShowsBad, ShowsLasso}
use Rattle.live_safe.specs.Shadow.{closing_literal, shadow_of}

-- what the first t times of a run of the shadow circuit say of the circuit: its first state, and its inputs
abbrev pub stimulus_of : Parts → ℕ → List Valuation → ℕ → Stimulus
stimulus_of m j r t = Violated (Justice j) (state_of m (at r 0)) (map (inputs_of m) (take t r))

-- a run of the shadow circuit that follows a lasso: it saves at the start of it alone, and after the last line comes that
-- of the start once more
pub record Carries (m : Parts) (j : ℕ) (initial : List Bool) (lines : List (List Bool)) (start : ℕ) (r : List Valuation) : Type 0 where
  pub runs : IsRun (shadow_of m j) r
  pub keeps : KeepsConstraints (shadow_of m j) r
  pub long : length r ≡ length lines + 1
  pub begins : state_of m (at r 0) ≡ initial
  pub follows : (t : ℕ) → t < length lines → inputs_of (shadow_of m j) (at r t) ≡ slice_index_or lines t [] ++ (t == start) ∷ []
  pub returns : inputs_of (shadow_of m j) (at r (length lines)) ≡ slice_index_or lines start [] ++ false ∷ []
  pub sets : value_of (at r (length lines)) (closing_literal m j) ≡ true

-- the lasso of a violation of the shadow circuit: without the values of what that adds, and without the last line
abbrev pub lasso_from : Parts → ℕ → List Bool → List (List Bool) → Stimulus
lasso_from m j initial lines =
    Violated (Justice j) (take (length m.latches) initial) (map (take (length m.inputs)) (take (length lines - 1) lines))

-- as many values as the shadow circuit has latches, and in each line as many as it has inputs; and there is a line
pub record FitsShadow (m : Parts) (j : ℕ) (initial : List Bool) (lines : List (List Bool)) : Type 0 where
  pub latches : length initial ≡ length (shadow_of m j).latches
  pub inputs : All (λ line. length line ≡ length (shadow_of m j).inputs) lines
  pub some : 0 < length lines

-- a run of the shadow circuit that keeps the constraints and sets the bad literal shows a lasso of the times before
abbrev pub FoundLaw : Parts → ℕ → Type 0
FoundLaw m j = (r : List Valuation) (t : ℕ) → IsRun (shadow_of m j) r → KeepsConstraints (shadow_of m j) r → t < length r →
    value_of (at r t) (closing_literal m j) ≡ true → ShowsLasso m (stimulus_of m j r t)

-- each lasso is followed by a run of the shadow circuit that sets the bad literal one time after it
abbrev pub CarriedLaw : Parts → ℕ → Type 0
CarriedLaw m j = (initial : List Bool) (lines : List (List Bool)) → (h : ShowsLasso m (Violated (Justice j) initial lines)) →
    (r : List Valuation) × Carries m j initial lines h.start r

-- where the shadow circuit never sets its bad literal, the rounds of the property are bounded
abbrev pub BoundedLaw : Parts → ℕ → Type 0
BoundedLaw m j = IsSafe (shadow_of m j) (Bad 0) → IsBounded m j

-- a stimulus that violates the shadow circuit's bad literal gives one that shows a lasso
abbrev pub ShownLaw : Parts → ℕ → Type 0
ShownLaw m j = (initial : List Bool) (lines : List (List Bool)) → ShowsBad (shadow_of m j) (Violated (Bad 0) initial lines) →
    ShowsLasso m (lasso_from m j initial lines)

-- where no run of the shadow circuit of fewer times sets the bad literal, each lasso has as many lines but one, or more: so
-- the shortest violation of the shadow circuit gives a shortest lasso
abbrev pub ShortestLaw : Parts → ℕ → Type 0
ShortestLaw m j = (times : ℕ) →
    ((r : List Valuation) → IsRun (shadow_of m j) r → KeepsConstraints (shadow_of m j) r → length r < times → All (λ w. value_of w (closing_literal m j) ≡ false) r) →
    (initial : List Bool) (lines : List (List Bool)) → ShowsLasso m (Violated (Justice j) initial lines) → times ≤ length lines + 1
