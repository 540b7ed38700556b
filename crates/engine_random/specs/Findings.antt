-- What is found by playing at random.
use Rattle.std.specs.Prelude.{◌≡◌, ℕ, ◌<◌, true, List, Option, Some, None}
use Rattle.graph.specs.declared.circuit.Property.TheVariants.{Bad}
use Rattle.graph.specs.declared.parts.Parts.{Parts}
use Rattle.stimulus.specs.declared.value.Stimulus.{Stimulus}
use Rattle.stimulus.specs.declared.value.Stimulus.TheVariants as stimulus
use Rattle.stimulus.specs.Shown.{ShowsBad}
use Rattle.engine.specs.declared.finding.Finding.{Finding}
use Rattle.engine.specs.declared.finding.Finding.TheVariants.{Invariant, Run, Unknown}
use Rattle.engine.specs.declared.finding.Reason.TheVariants.{Budget}
use Rattle.simulate.specs.Lanes.{value_in, row_of, rows_of}
use Rattle.engine_random.specs.Batches.{Played, AreSet}

-- the run that a stimulus tells of
abbrev pub run_of : Stimulus → Option Finding
run_of (stimulus.Violated property initial inputs) = Some (Run initial inputs)
run_of (stimulus.Holds property) = None
run_of (stimulus.Unknown property) = None

-- the finding is this run of the batch, which shows the bad literal
pub record IsRunOf (b : Played) (r : ℕ) (f : Finding) : Type 0 where
  pub is_run : f ≡ Run (row_of r b.first) (rows_of r b.inputs)
  pub shows : ShowsBad b.circuit (stimulus.Violated (Bad 0) (row_of r b.first) (rows_of r b.inputs))

-- run r is in and sets the bad literal at the time played last
abbrev pub SetsBad : Played → List (List ℕ) → ℕ → Type 0
SetsBad b values r = (value_in b.running r ≡ true) × AreSet b.circuit.bad (row_of r values)

-- it is the lowest of the 256 runs that is in and sets the bad literal
pub record IsLowestOf (b : Played) (f : Finding) : Type 0 where
  pub position : ℕ
  pub inside : position < 256
  pub values : List (List ℕ)
  pub has_values : b.wide.now ≡ Some values
  pub sets_bad : SetsBad b values position
  pub lowest : (r : ℕ) → r < position → SetsBad b values r → ⊥
  pub found : IsRunOf b position f

-- a run, or an unknown where the budget is exhausted: nothing else is answered
abbrev pub IsRunOrSpent : Finding → Type 0
IsRunOrSpent (Run initial inputs) = Unit {0}
IsRunOrSpent (Invariant clauses) = ⊥
IsRunOrSpent (Unknown reason) = reason ≡ Budget

-- the finding is a run that shows the bad literal
abbrev pub IsJudged : Parts → Finding → Type 0
IsJudged m (Run initial inputs) = ShowsBad m (stimulus.Violated (Bad 0) initial inputs)
IsJudged m (Invariant clauses) = ⊥
IsJudged m (Unknown reason) = ⊥
