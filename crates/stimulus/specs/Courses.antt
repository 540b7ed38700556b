-- A replay, valuation by valuation.
use Rattle.std.specs.Prelude.{◌≡◌, ℕ, ◌+◌, ◌<◌, ◌⊎◌, Bool, true, List, [], ◌∷◌, ◌++◌, length, take, drop, slice_index_or, Some, All}
use Rattle.graph.specs.declared.circuit.Lit.{Lit}
use Rattle.graph.specs.declared.parts.Parts.{Parts}
use Rattle.graph.specs.Circuits.{Valuation, value_of, place, Agrees, state_of, inputs_of, next_state, at}
use Rattle.simulate.specs.Replays.{Replayed}
use Rattle.simulate.specs.Starts.{Starts, IsFirstAgainst}
use Rattle.stimulus.specs.declared.judge_error.JudgeError.{JudgeError}
use Rattle.stimulus.specs.declared.judge_error.JudgeError.TheVariants.{NotViolated, NoProperty, LineLength, NoInputLine, InitialReset, ConstraintBroken, BadNotSet, NoLasso, OutOfMemory}
use Rattle.stimulus.specs.Shown.{last_of, closing_state}
use Rattle.stimulus.specs.Causes.{KeepsAt, BreaksAt, IsTheRun}

-- the valuation agrees, with this state and these inputs
pub record IsAt (m : Parts) (state line : List Bool) (w : Valuation) : Type 0 where
  pub agrees : Agrees m w
  pub has_state : state_of m w ≡ state
  pub has_inputs : inputs_of m w ≡ line

-- a valuation for each line, the first of this state, each further one of the state before it leads to
abbrev pub Course : Parts → List Bool → List (List Bool) → List Valuation → Type 0
Course m state [] [] = Unit {0}
Course m state [] (w ∷ r) = ⊥
Course m state (line ∷ lines) [] = ⊥
Course m state (line ∷ lines) (w ∷ r) = IsAt m state line w × Course m (next_state m w) lines r

-- the state to which valuations lead
abbrev pub state_after : Parts → List Bool → List Valuation → List Bool
state_after m state [] = state
state_after m state (w ∷ r) = state_after m (next_state m w) r

-- the first i lines were stepped, which gave these valuations, and every course of all lines goes so
pub record IsPlayed (m : Parts) (state : List Bool) (lines : List (List Bool)) (i : ℕ) (now : Replayed) (r : List Valuation) : Type 0 where
  pub circuit : now.circuit ≡ m
  pub course : Course m state (take i lines) r
  pub has_state : now.state ≡ state_after m state r
  pub has_now : 0 < i → now.now ≡ Some (last_of r)
  pub others : (x : List Valuation) → Course m state lines x → (x ≡ r ++ drop i x) × Course m now.state (drop i lines) (drop i x)

-- all lines were stepped, and every constraint is kept
pub record PlaysAll (m : Parts) (before after : Replayed) (lines : List (List Bool)) : Type 0 where
  pub valuations : List Valuation
  pub played : IsPlayed m before.state lines (length lines) after valuations
  pub keeps : All (KeepsAt m) valuations

-- the lines up to this time were stepped, at which a constraint is broken, and none before
pub record PlaysUpTo (m : Parts) (before after : Replayed) (lines : List (List Bool)) (t : ℕ) : Type 0 where
  pub inside : t < length lines
  pub valuations : List Valuation
  pub played : IsPlayed m before.state lines (t + 1) after valuations
  pub before_keeps : (i : ℕ) → i < t → KeepsAt m (at valuations i)
  pub broken : KeepsAt m (at valuations t) → ⊥

-- the replay of all lines is a run that keeps the constraints, and stands behind its last time
pub record HasRun (m : Parts) (initial : List Bool) (inputs : List (List Bool)) (now : Replayed) : Type 0 where
  pub circuit : now.circuit ≡ m
  pub valuations : List Valuation
  pub is_run : IsTheRun m initial inputs valuations
  pub has_now : now.now ≡ Some (last_of valuations)
  pub has_state : now.state ≡ closing_state m valuations

-- why there is no such run
abbrev pub HasRunCause : Parts → List Bool → List (List Bool) → JudgeError → Type 0
HasRunCause m initial inputs NotViolated = ⊥
HasRunCause m initial inputs (NoProperty n) = ⊥
HasRunCause m initial inputs (LineLength k) = ⊥
HasRunCause m initial inputs NoInputLine = ⊥
HasRunCause m initial inputs (InitialReset k) = IsFirstAgainst m.latches initial k
HasRunCause m initial inputs (ConstraintBroken t) = Starts m.latches initial × BreaksAt m initial inputs t
HasRunCause m initial inputs BadNotSet = ⊥
HasRunCause m initial inputs NoLasso = ⊥
HasRunCause m initial inputs (OutOfMemory refused) = Unit {0}

-- in no course of the lines a time has this state
abbrev pub NeverMeets : Parts → List Bool → List (List Bool) → List Bool → Type 0
NeverMeets m state lines wanted = (x : List Valuation) → Course m state lines x → (k : ℕ) → k < length x → state_of m (at x k) ≡ wanted → ⊥

-- time i is the first of this state, and from there the other lines go on
pub record MeetsAt (m : Parts) (state : List Bool) (lines : List (List Bool)) (wanted now : List Bool) (i : ℕ) : Type 0 where
  pub inside : i < length lines
  pub meets : now ≡ wanted
  pub goes_on : (x : List Valuation) → Course m state lines x → Course m now (drop i lines) (drop i x)
  pub before : (x : List Valuation) → Course m state lines x → (k : ℕ) → k < i → state_of m (at x k) ≡ wanted → ⊥

-- the k-th literal is set at a time before i
abbrev pub IsSetBefore : List Valuation → ℕ → Lit → Type 0
IsSetBefore x i a = (t : ℕ) × (t < i) × (value_of (at x t) a ≡ true)

-- a mark is set where it was, or where its literal is set at a time before i
pub record Marks (wanted : List Lit) (x : List Valuation) (i : ℕ) (before after : List Bool) : Type 0 where
  pub long : length after ≡ length before
  pub set : (k : ℕ) (d : Lit) → k < length wanted → (place before k ≡ true) ⊎ IsSetBefore x i (slice_index_or wanted k d) → place after k ≡ true
  pub only : (k : ℕ) (d : Lit) → k < length wanted → place after k ≡ true → (place before k ≡ true) ⊎ IsSetBefore x i (slice_index_or wanted k d)
