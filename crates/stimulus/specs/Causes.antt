-- Why a stimulus shows nothing: the first cause, in the order no violation, no such property, a line's length, no input
-- line, a latch against its reset, a constraint broken, and then the bad literal not set or no lasso.
use Rattle.std.specs.Prelude.{◌≡◌, ℕ, ◌+◌, ◌<◌, ◌≢◌, ◌⊎◌, Bool, true, false, List, [], length, slice_index_or, take, All}
use Rattle.graph.specs.declared.circuit.Lit.{Lit}
use Rattle.graph.specs.declared.circuit.Property.{Property}
use Rattle.graph.specs.declared.circuit.Property.TheVariants.{Justice}
use Rattle.graph.specs.declared.parts.Parts.{Parts}
use Rattle.graph.specs.Circuits.{Valuation, value_of, IsRun, KeepsConstraints, wanted_of, at, position_of, HasProperty, IsWatched}
use Rattle.simulate.specs.Starts.{Starts, IsFirstAgainst}
use Rattle.stimulus.specs.declared.value.Stimulus.{Stimulus}
use Rattle.stimulus.specs.declared.value.Stimulus.TheVariants.{Holds, Violated, Unknown}
use Rattle.stimulus.specs.declared.judge_error.JudgeError.{JudgeError}
use Rattle.stimulus.specs.declared.judge_error.JudgeError.TheVariants.{NotViolated, NoProperty, LineLength, NoInputLine, InitialReset, ConstraintBroken, BadNotSet, NoLasso, OutOfMemory}
use Rattle.stimulus.specs.Shown.{IsReplay, last_of, closing_state, ClosesLasso}

-- the line at t has another length, and none before it
pub record IsFirstWrong (lines : List (List Bool)) (long t : ℕ) : Type 0 where
  pub inside : t < length lines
  pub wrong : length (slice_index_or lines t []) ≢ long
  pub before : (i : ℕ) → i < t → length (slice_index_or lines i []) ≡ long

-- the latch line, of number 0, or else the input line at the time before this number is the first of another length
abbrev pub IsWrongLine : Parts → List Bool → List (List Bool) → ℕ → Type 0
IsWrongLine m initial inputs k =
    ((k ≡ 0) × (length initial ≢ length m.latches))
    ⊎ ((length initial ≡ length m.latches) × ((t : ℕ) × (k ≡ t + 1) × IsFirstWrong inputs (length m.inputs) t))

-- the lines have their lengths
pub record HasFitLines (m : Parts) (initial : List Bool) (inputs : List (List Bool)) : Type 0 where
  pub latches : length initial ≡ length m.latches
  pub inputs_fit : All (λ line. length line ≡ length m.inputs) inputs

-- and there is an input line
pub record IsPlayable (m : Parts) (initial : List Bool) (inputs : List (List Bool)) : Type 0 where
  pub lines : HasFitLines m initial inputs
  pub some : inputs ≢ []

-- the property is there, and the lines can be played
pub record IsFit (m : Parts) (p : Property) (initial : List Bool) (inputs : List (List Bool)) : Type 0 where
  pub property : HasProperty m p
  pub playable : IsPlayable m initial inputs

-- every constraint is true
abbrev pub KeepsAt : Parts → Valuation → Type 0
KeepsAt m w = All (λ a. value_of w a ≡ true) m.constraints

-- every replay begins with these valuations, which keep the constraints up to the last, at this time, that breaks one
pub record BreaksAt (m : Parts) (initial : List Bool) (inputs : List (List Bool)) (t : ℕ) : Type 0 where
  pub inside : t < length inputs
  pub replay : List Valuation
  pub replays : IsReplay m initial (take (t + 1) inputs) replay
  pub only : (x : List Valuation) → IsReplay m initial inputs x → take (t + 1) x ≡ replay
  pub before : (i : ℕ) → i < t → KeepsAt m (at replay i)
  pub broken : KeepsAt m (at replay t) → ⊥

-- the one replay, a run that keeps the constraints
pub record IsTheRun (m : Parts) (initial : List Bool) (inputs : List (List Bool)) (r : List Valuation) : Type 0 where
  pub replays : IsReplay m initial inputs r
  pub only : (x : List Valuation) → IsReplay m initial inputs x → x ≡ r
  pub runs : IsRun m r
  pub keeps : KeepsConstraints m r

-- the one replay does not set the literal that the property watches at its last time
pub record LeavesBad (m : Parts) (p : Property) (initial : List Bool) (inputs : List (List Bool)) : Type 0 where
  pub bad : Lit
  pub replay : List Valuation
  pub watched : IsWatched m p bad
  pub runs : IsTheRun m initial inputs replay
  pub not_set : value_of (last_of replay) bad ≡ false

-- the one replay closes no lasso
pub record LeavesLasso (m : Parts) (p : Property) (initial : List Bool) (inputs : List (List Bool)) : Type 0 where
  pub position : ℕ
  pub replay : List Valuation
  pub names : p ≡ Justice position
  pub exists : position < length m.justice
  pub runs : IsTheRun m initial inputs replay
  pub no_lasso : (start : ℕ) → ClosesLasso m (wanted_of m position) (closing_state m replay) replay start → ⊥

-- the reason for which the lines show no violation of the property stands, and none that comes before it
abbrev pub HasCauseIn : Parts → Property → List Bool → List (List Bool) → JudgeError → Type 0
HasCauseIn m p initial inputs NotViolated = ⊥
HasCauseIn m p initial inputs (NoProperty n) = (n ≡ position_of p) × (HasProperty m p → ⊥)
HasCauseIn m p initial inputs (LineLength k) = HasProperty m p × IsWrongLine m initial inputs k
HasCauseIn m p initial inputs NoInputLine = HasProperty m p × HasFitLines m initial inputs × (inputs ≡ [])
HasCauseIn m p initial inputs (InitialReset k) = IsFit m p initial inputs × IsFirstAgainst m.latches initial k
HasCauseIn m p initial inputs (ConstraintBroken t) = IsFit m p initial inputs × Starts m.latches initial × BreaksAt m initial inputs t
HasCauseIn m p initial inputs BadNotSet = LeavesBad m p initial inputs
HasCauseIn m p initial inputs NoLasso = LeavesLasso m p initial inputs
HasCauseIn m p initial inputs (OutOfMemory refused) = Unit {0}

-- the reason for which the stimulus shows no violation stands
abbrev pub HasCause : Parts → Stimulus → JudgeError → Type 0
HasCause m (Violated p initial inputs) e = HasCauseIn m p initial inputs e
HasCause m (Holds p) e = e ≡ NotViolated
HasCause m (Unknown p) e = e ≡ NotViolated
