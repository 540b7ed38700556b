-- Lines that several refutations share.
use Rattle.base.specs.Witness.{witness}
use Rattle.std.specs.Prelude.{◌≡◌, ℕ, ◌⊎◌, Bool, List, [], ◌∷◌, ◌++◌, length, All}
use Rattle.std.specs.FinMap as fin
use Rattle.lrat.specs.Literals.{Satisfies}
use Rattle.lrat.specs.Limits.{IsLine}
use Rattle.lrat.specs.Stages.{Stage, GoAlong}
use Rattle.lrat.specs.Halts.{Halts}
use Rattle.lrat.specs.Proofs.{first_stage}
use Rattle.lrat.specs.Shared.{Base, base_of, over}
use Rattle.lrat.specs.declared.formula.Formula.{Formula}
use Rattle.lrat.specs.declared.line.Line.{Line}
use Rattle.lrat.specs.declared.line.Line.TheVariants.{Add, Delete}
use Rattle.lrat.specs.declared.fault.Fault.{Fault}
use Rattle.lrat.specs.declared.fault.Fault.TheVariants.{OutOfMemory, EmptyLemma}
use Rattle.lrat.specs.declared.step_error.StepError.{StepError}

-- the line adds the empty clause
abbrev pub AddsEmpty : Line → Type 0
AddsEmpty (Add id c hints) = c ≡ []
AddsEmpty (Delete id ids) = ⊥

-- why a line is no lemma: it adds the empty clause, or else it leads on from no stage
abbrev pub IsNoLemma : ℕ → Stage → Line → Fault → Type 0
IsNoLemma n s l e = ((e ≡ EmptyLemma) × AddsEmpty l) ⊎ ((AddsEmpty l → ⊥) × Halts n s l e)

-- the lines lead from one stage to another, and none adds the empty clause
pub record Extends (n : ℕ) (s : Stage) (ls : List Line) (t : Stage) : Type 0 where
  pub along : GoAlong n s ls t
  pub not_empty : All (λ l. AddsEmpty l → ⊥) ls

-- the clauses that are present at a stage, as a base
abbrev pub base_at : ℕ → Stage → Base
base_at n s = record { vars = n; present = s.present; top = s.top }

-- all lines before place k are lemmas, and the one at k is none
pub record NoLemmaAt (n : ℕ) (s : Stage) (ls : List Line) (e : Fault) (k : ℕ) : Type 0 where
  pub done : List Line
  pub line : Line
  pub later : List Line
  pub reached : Stage
  pub are : ls ≡ done ++ line ∷ later
  pub place : k ≡ length done
  pub extends : Extends n s done reached
  pub no_lemma : IsNoLemma n reached line e

-- out of memory, or the first line that is no lemma
abbrev pub IsRefusedExtension : Formula → List Line → StepError → Type 0
IsRefusedExtension f ls e = (e ≡ record { fault = (OutOfMemory witness); line = 0 }) ⊎ NoLemmaAt f.vars (first_stage f) ls e.fault e.line

-- what is shared says nothing new: whatever satisfies a base satisfies all that lines lead to from it
abbrev pub SharedLaw : Type 0
SharedLaw = (b : Base) (ls : List Line) (t : Stage) → All IsLine ls → GoAlong b.vars (over b []) ls t
    → (v : ℕ → Bool) → Satisfies v (fin.get b.present) → Satisfies v (fin.get t.present)

-- with no lemmas a formula's own clauses are shared
abbrev pub NoLemmasLaw : Type 0
NoLemmasLaw = (f : Formula) (t : Stage) → Extends f.vars (first_stage f) [] t → base_at f.vars t ≡ base_of f
