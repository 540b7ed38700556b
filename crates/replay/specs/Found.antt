-- What is found of a stimulus while it is read.
use Rattle.std.specs.Prelude.{◌≡◌, ◌≢◌, ℕ, Bool, true, false, List, [], length, All, Option, None, Some}
use Rattle.base.specs.Witness.{witness}
use Rattle.graph.specs.declared.circuit.Property.{Property}
use Rattle.graph.specs.declared.parts.Parts.{Parts}
use Rattle.simulate.specs.Replays.{Replayed, begun}
use Rattle.stimulus.specs.Causes.{HasCause, IsFirstWrong}
use Rattle.stimulus.specs.Courses.{PlaysAll}
use Rattle.stimulus.specs.Numbers.{judge_number_of}
use Rattle.stimulus.specs.Shown.{Shows}
use Rattle.stimulus.specs.Texts.{property_of}
use Rattle.stimulus.specs.declared.judge_error.JudgeError.{JudgeError}
use Rattle.stimulus.specs.declared.judge_error.JudgeError.TheVariants.{OutOfMemory}
use Rattle.stimulus.specs.declared.value.Stimulus.{Stimulus}
use Rattle.stimulus.specs.declared.value.Stimulus.TheVariants.{Violated}
use Rattle.replay.specs.declared.judging.Outcome.{Outcome}
use Rattle.replay.specs.declared.lines.Lengths.{Lengths}
use Rattle.replay.specs.declared.lines.Lengths.TheVariants.{Fit, Missing, Wrong}

-- the stimulus shows its violation, or the number is that of the first cause
abbrev pub IsFound : Parts → Stimulus → Option ℕ → Type 0
IsFound m s None = Shows m s
IsFound m s (Some n) = (e : JudgeError) × (e ≢ OutOfMemory witness) × HasCause m s e × (n ≡ judge_number_of e)

-- the property is reported with it
abbrev pub IsOutcome : Parts → Stimulus → Outcome → Type 0
IsOutcome m s found = (found.property ≡ property_of s) × IsFound m s found.refusal

-- so do its lines
abbrev pub AreFound : Parts → Property → List Bool → List (List Bool) → Option ℕ → Type 0
AreFound m p initial inputs found = IsFound m (Violated p initial inputs) found

-- what the lengths of lines are
abbrev pub AreOfLengths : ℕ → List (List Bool) → Lengths → Type 0
AreOfLengths long lines Fit = All (λ line. length line ≡ long) lines × (lines ≢ [])
AreOfLengths long lines Missing = lines ≡ []
AreOfLengths long lines Wrong = (t : ℕ) × IsFirstWrong lines long t

-- the number of the first cause, where it is this one unless the lengths are one
abbrev pub cause_by : Lengths → ℕ → ℕ
cause_by Fit number = number
cause_by Missing number = 64
cause_by Wrong number = 66

-- the number of the first cause by the lengths of the lines
abbrev pub AreRefused : ℕ → ℕ → List (List Bool) → Option ℕ → Type 0
AreRefused number long lines found = (lengths : Lengths) × AreOfLengths long lines lengths × (found ≡ Some (cause_by lengths number))

-- these lines fit, and were played from the initial state; the flag says whether there is one
pub record ArePlayed (m : Parts) (initial : List Bool) (some : Bool) (now : Replayed) (lines : List (List Bool)) : Type 0 where
  pub fit : All (λ line. length line ≡ length m.inputs) lines
  pub plays : PlaysAll m (begun m initial) now lines
  pub there : some ≡ true → lines ≢ []
  pub none : some ≡ false → lines ≡ []
