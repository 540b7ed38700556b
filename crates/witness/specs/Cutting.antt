-- Where the replay of lines first shows a violation.
use Rattle.std.specs.Prelude.{◌≡◌, ℕ, ◌<◌, ◌≤◌, Bool, true, List, take}
use Rattle.simulate.specs.Starts.{IsFirstAgainst}
use Rattle.stimulus.specs.declared.value.Stimulus.TheVariants.{Violated}
use Rattle.stimulus.specs.declared.judge_error.JudgeError.{JudgeError}
use Rattle.stimulus.specs.declared.judge_error.JudgeError.TheVariants.{NotViolated, NoProperty, LineLength, NoInputLine, InitialReset, ConstraintBroken, BadNotSet, NoLasso, OutOfMemory}
use Rattle.stimulus.specs.Shown.{ClosesLasso, IsReplay, Shows, closing_state, last_of}
use Rattle.graph.specs.declared.circuit.Lit.{Lit}
use Rattle.graph.specs.declared.circuit.Property.{Property}
use Rattle.graph.specs.declared.parts.Parts.{Parts}
use Rattle.graph.specs.Circuits.{Valuation, value_of}

-- the first lines, however many, do not show the violation
abbrev pub NeverShows : Parts → Property → List Bool → List (List Bool) → Type 0
NeverShows m p initial lines = (k : ℕ) → Shows m (Violated p initial (take k lines)) → ⊥

-- where first lines show the violation, they are no fewer than t, and the first t do
abbrev pub ShowsFirst : Parts → Property → List Bool → List (List Bool) → ℕ → Type 0
ShowsFirst m p initial lines t = (k : ℕ) → Shows m (Violated p initial (take k lines)) → (t ≤ k) × Shows m (Violated p initial (take t lines))

-- the literal is set at the last time
abbrev pub SetsLast : Lit → List Valuation → Type 0
SetsLast a r = value_of (last_of r) a ≡ true

-- the state after the last time closes a lasso in which each wanted literal is set
abbrev pub Closes : Parts → List Lit → List Valuation → Type 0
Closes m wanted r = (start : ℕ) × ClosesLasso m wanted (closing_state m r) r start

-- no replay of first lines ends so
abbrev pub NeverEnds : (List Valuation → Type 0) → Parts → List Bool → List (List Bool) → Type 0
NeverEnds P m state lines = (k : ℕ) (r : List Valuation) → IsReplay m state (take k lines) r → P r → ⊥

-- where a replay of first lines ends so, it has no fewer than t times, and its first t end so
pub record EndsFirst (P : List Valuation → Type 0) (m : Parts) (state : List Bool) (lines : List (List Bool)) (t : ℕ) : Type 0 where
  pub some : 0 < t
  pub first : (k : ℕ) (r : List Valuation) → IsReplay m state (take k lines) r → P r → (t ≤ k) × P (take t r)

-- why no replay begins in a state: a latch is against its reset, or out of memory
abbrev pub IsNoStart : Parts → List Bool → JudgeError → Type 0
IsNoStart m initial NotViolated = ⊥
IsNoStart m initial (NoProperty n) = ⊥
IsNoStart m initial (LineLength k) = ⊥
IsNoStart m initial NoInputLine = ⊥
IsNoStart m initial (InitialReset k) = IsFirstAgainst m.latches initial k
IsNoStart m initial (ConstraintBroken t) = ⊥
IsNoStart m initial BadNotSet = ⊥
IsNoStart m initial NoLasso = ⊥
IsNoStart m initial (OutOfMemory refused) = Unit {0}
