-- What a bounded search finds (Biere, Cimatti, Clarke, Zhu 1999).
use Rattle.std.specs.Prelude.{◌≡◌, ℕ, ◌+◌, ◌-◌, ◌≤◌, true, List, length, Option, None, Some}
use Rattle.base.specs.Budget.{Steps}
use Rattle.graph.specs.declared.circuit.Property.TheVariants.{Bad}
use Rattle.graph.specs.declared.parts.Parts.{Parts}
use Rattle.graph.specs.Circuits.{Valuation, value_of, IsRun, KeepsConstraints}
use Rattle.stimulus.specs.declared.value.Stimulus.TheVariants as stimulus
use Rattle.stimulus.specs.Shown.{ShowsBad, last_of}
use Rattle.cnf.specs.Formulas.{bad_literal}
use Rattle.engine.specs.Bounds.{IsUnsetFor}
use Rattle.engine.specs.declared.finding.Finding.{Finding}
use Rattle.engine.specs.declared.finding.Finding.TheVariants.{Invariant, Run, Unknown}
use Rattle.engine.specs.declared.finding.Reason.TheVariants.{Budget, Depth, NoEvidence}
use Rattle.solver.specs.declared.answer.Answer.{Answer}
use Rattle.solver.specs.declared.answer.Answer.TheVariants.{Model, Core, Spent}

-- what a bounded search is seen as: its depth, and its solver
pub record Bounded (S : Type 0) : Type 0 where
  pub depth : ℕ
  pub solver : S

-- no run of fewer times than the one found that keeps the constraints sets the bad literal
abbrev pub IsShortest : Parts → Finding → Type 0
IsShortest m (Run initial inputs) = IsUnsetFor m (Bad 0) (length inputs - 1)
IsShortest m (Invariant inv) = Unit {0}
IsShortest m (Unknown reason) = Unit {0}

-- a run of at most depth steps, nothing known beyond exactly depth, or a spent budget
abbrev pub IsWithinDepth : ℕ → Finding → Type 0
IsWithinDepth depth (Run initial inputs) = length inputs ≤ depth + 1
IsWithinDepth depth (Invariant inv) = ⊥
IsWithinDepth depth (Unknown Budget) = Unit {0}
IsWithinDepth depth (Unknown (Depth steps)) = steps ≡ depth
IsWithinDepth depth (Unknown NoEvidence) = ⊥

-- no run of this number of steps that keeps the constraints sets the bad literal at its last time
abbrev pub IsUnsetAfter : Parts → ℕ → Type 0
IsUnsetAfter m steps = (r : List Valuation) → IsRun m r → KeepsConstraints m r → length r ≡ steps + 1 →
    value_of (last_of r) (bad_literal m 0) ≡ true → ⊥

-- what ends a search at a number of steps: a run of that number that shows the bad literal, or a spent budget
abbrev pub EndsAt : Parts → ℕ → Steps → Finding → Type 0
EndsAt m steps after (Run initial inputs) = ShowsBad m (stimulus.Violated (Bad 0) initial inputs) × (length inputs ≡ steps + 1)
EndsAt m steps after (Invariant inv) = ⊥
EndsAt m steps after (Unknown Budget) = after.left ≡ 0
EndsAt m steps after (Unknown (Depth depth)) = ⊥
EndsAt m steps after (Unknown NoEvidence) = ⊥

-- what was found of the runs of this number of steps: what ends the search, or that none sets the bad literal
abbrev pub IsOfSteps : Parts → ℕ → Steps → Option Finding → Type 0
IsOfSteps m steps after (Some finding) = EndsAt m steps after finding
IsOfSteps m steps after None = IsUnsetAfter m steps

-- what is found by the solver's answer: by a model a run of this number of steps that shows the bad literal, by a core nothing, and else
-- that the budget is exhausted
abbrev pub IsFoundBy : Parts → ℕ → Answer → Option Finding → Type 0
IsFoundBy m steps (Model b) found = (f : Finding) × (found ≡ Some f) × ((after : Steps) → EndsAt m steps after f)
IsFoundBy m steps (Core core) found = found ≡ None
IsFoundBy m steps Spent found = found ≡ Some (Unknown Budget)

-- what the solver's answer says: by a core no run of this number of steps sets the bad literal, or the budget is exhausted
abbrev pub IsAnswerOf : Parts → ℕ → Steps → Answer → Type 0
IsAnswerOf m steps after (Model b) = Unit {0}
IsAnswerOf m steps after (Core core) = IsUnsetAfter m steps
IsAnswerOf m steps after Spent = after.left ≡ 0
