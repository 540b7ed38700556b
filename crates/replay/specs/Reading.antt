-- How the lines of a stimulus are read, one after the other.
use Rattle.std.specs.Prelude.{ℕ, Bool, true, false, List, Option, Some, None, codes}
use Rattle.scan.specs.Reading.{◌>>=◌, Read}
use Rattle.scan.specs.Bytes.{byte_at, choice_at, tag_at}
use Rattle.scan.specs.Lists.{items_at}
use Rattle.graph.specs.declared.circuit.Property.{Property}
use Rattle.stimulus.specs.Reading.{line_at, never_at, value_at}
use Rattle.stimulus.specs.declared.value.Stimulus.{Stimulus}
use Rattle.stimulus.specs.declared.value.Stimulus.TheVariants as stimulus
use Rattle.replay.specs.declared.kinds.Status.{Status}
use Rattle.replay.specs.declared.kinds.Status.TheVariants.{Holds, Violated, Unknown}

-- the digit of the status
unfoldable pub digit_at : List ℕ → Read Status
digit_at bytes =
    choice_at 48 (λ rest. Some (Holds, rest))
    (choice_at 49 (λ rest. Some (Violated, rest)) (choice_at 50 (λ rest. Some (Unknown, rest)) never_at)) bytes

-- the first line
unfoldable pub status_at : List ℕ → Read Status
status_at bytes = digit_at bytes >>= λ status. (byte_at 10 status.1 >>= λ rest. Some (status.0, rest))

-- a line of a dot
unfoldable pub dot_at : List ℕ → Read (Unit {0})
dot_at bytes = tag_at (codes ".\n") bytes >>= λ rest. Some (tt, rest)

-- the values of a run, and the dot
unfoldable pub run_at : Property → List ℕ → Read Stimulus
run_at property bytes = do
  initial ← items_at value_at bytes
  inputs ← items_at line_at initial.1
  Some (stimulus.Violated property initial.0 inputs.0, inputs.1)

-- what follows the property's line
unfoldable pub body_at : Status → Property → List ℕ → Read Stimulus
body_at Holds property bytes = dot_at bytes >>= λ end. Some (stimulus.Holds property, end.1)
body_at Violated property bytes = run_at property bytes
body_at Unknown property bytes = dot_at bytes >>= λ end. Some (stimulus.Unknown property, end.1)

-- a stimulus of this status has no run
abbrev pub IsConclusion : Status → Type 0
IsConclusion Holds = Unit {0}
IsConclusion Violated = ⊥
IsConclusion Unknown = Unit {0}

-- the line that a buffer holds, where one was read
abbrev pub line_where : Bool → List Bool → Option (List Bool)
line_where true line = Some line
line_where false line = None
