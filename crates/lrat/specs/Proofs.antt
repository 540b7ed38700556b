-- When a proof of a formula is accepted, and why it is refused.
use Rattle.base.specs.Witness.{witness}
use Rattle.std.specs.Prelude.{◌≡◌, ℕ, ◌+◌, ◌⊎◌, Bool, true, false, List, [], ◌∷◌, ◌++◌, length, All, ℤ}
use Rattle.std.specs.FinMap as fin
use Rattle.lrat.specs.Store.{ById}
use Rattle.lrat.specs.Literals.{IsSatisfied}
use Rattle.lrat.specs.Stages.{Stage, GoAlong}
use Rattle.lrat.specs.Halts.{Halts}
use Rattle.lrat.specs.declared.formula.Formula.{Formula}
use Rattle.lrat.specs.declared.line.Line.{Line}
use Rattle.lrat.specs.declared.fault.Fault.{Fault}
use Rattle.lrat.specs.declared.fault.Fault.TheVariants.{OutOfMemory, NoEmptyClause}
use Rattle.lrat.specs.declared.step_error.StepError.{StepError}

-- each clause of the formula has a literal that is true
abbrev pub Solves : (ℕ → Bool) → Formula → Type 0
Solves v f = All (IsSatisfied v) f.clauses

-- the clauses m, and the clauses cs with the ids from k on
abbrev pub numbered_from : ℕ → List (List ℤ) → ById → ById
numbered_from k [] m = m
numbered_from k (c ∷ cs) m = numbered_from (k + 1) cs (fin.insert m k c)

-- the formula's clauses are present, and have the ids from 1 on
abbrev pub first_stage : Formula → Stage
first_stage f = record { present = numbered_from 1 f.clauses fin.empty; top = length f.clauses; closed = false }

-- the lines lead to the empty clause
abbrev pub IsAcceptedProof : Formula → List Line → Type 0
IsAcceptedProof f ls = (t : Stage) × GoAlong f.vars (first_stage f) ls t × (t.closed ≡ true)

-- all lines before place k lead on, and the one at k does not
pub record HaltsAt (n : ℕ) (s : Stage) (ls : List Line) (e : Fault) (k : ℕ) : Type 0 where
  pub done : List Line
  pub line : Line
  pub later : List Line
  pub reached : Stage
  pub are : ls ≡ done ++ line ∷ later
  pub place : k ≡ length done
  pub along : GoAlong n s done reached
  pub halts : Halts n reached line e

-- all k lines lead on, and none adds the empty clause
pub record StaysOpen (n : ℕ) (s : Stage) (ls : List Line) (k : ℕ) : Type 0 where
  pub reached : Stage
  pub along : GoAlong n s ls reached
  pub open_end : reached.closed ≡ false
  pub place : k ≡ length ls

-- out of memory, the first line that is refused, or the want of the empty clause
abbrev pub IsRefusedProof : Formula → List Line → StepError → Type 0
IsRefusedProof f ls e =
    (e ≡ record { fault = (OutOfMemory witness); line = 0 })
    ⊎ (HaltsAt f.vars (first_stage f) ls e.fault e.line ⊎ ((e.fault ≡ NoEmptyClause) × StaysOpen f.vars (first_stage f) ls e.line))
