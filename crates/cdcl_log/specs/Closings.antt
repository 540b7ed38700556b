-- What shows that nothing satisfies a formula with some units, over the lines of a log.
use Rattle.std.specs.Prelude.{◌≡◌, ℕ, ℤ, pos, ◌+◌, ◌<◌, ◌≤◌, List, [], ◌∷◌, ◌++◌, map, length, get_or, unsigned_abs, All, Contains, Some}
use Rattle.std.specs.FinMap as fin
use Rattle.base.specs.Budget.{Steps}
use Rattle.lrat.specs.Literals.{Finder}
use Rattle.lrat.specs.Lines.{IsAcceptedLine}
use Rattle.lrat.specs.Limits.{IsLine}
use Rattle.lrat.specs.Lemmas.{Extends, base_at}
use Rattle.lrat.specs.Proofs.{first_stage}
use Rattle.lrat.specs.Shared.{IsAcceptedOver}
use Rattle.lrat.specs.Stages.{Stage, GoAlong, IsPositive}
use Rattle.lrat.specs.declared.line.Line.{Line}
use Rattle.lrat.specs.declared.line.Line.TheVariants.{Add}
use Rattle.solver.specs.Answers.{IsModel}
use Rattle.cdcl_log.specs.Logged.{start, with_units}
use Rattle.cdcl_log.specs.Refuting.{Refuting}
use Rattle.cdcl_log.specs.Units.{unit_id}
use Rattle.cdcl_log.specs.declared.shown.Closing.{Closing}
use Rattle.cdcl_log.specs.declared.shown.Shown.{Shown}
use Rattle.cdcl_log.specs.declared.shown.Shown.TheVariants.{Closing as Closed, Model, Spent}
use Rattle.cdcl_log.specs.declared.lemmas.Lemmas.{Lemmas}

-- what these ids name in the first, they name in the second
abbrev pub NamesToo : Finder → Finder → List ℕ → Type 0
NamesToo m n ids = (q : ℕ) → Contains ids q → (c : List ℤ) → m q ≡ Some c → n q ≡ Some c

-- the ids behind base name the units
abbrev pub NamesUnits : Finder → ℕ → List ℤ → Type 0
NamesUnits m base us = (i : ℕ) → i < length us → m (base + i + 1) ≡ Some (get_or us i (pos 0) ∷ [])

-- the ids in the log that a closing hints
abbrev pub hints_of : Closing → List ℤ
hints_of k = k.hints

-- the hints of the empty clause, where the units have the ids behind base
abbrev pub hints_behind : ℕ → Closing → List ℤ
hints_behind base k = map (unit_id base) k.denied ++ k.hints

-- the closing's hints show the empty clause with these units: over whatever clauses have what they name where the log has led
-- to, and the units behind an id
pub record IsClosingOf (r : Refuting) (us : List ℤ) (k : Closing) : Type 0 where
  pub indices : All (λ p. p < length us) k.denied
  pub positive : All IsPositive k.hints
  pub in_limits : All (λ h. unsigned_abs h < 4294967296) k.hints
  pub below : All (λ h. unsigned_abs h < length r.formula.clauses + r.room + 1 + length r.log) k.hints
  pub shown : (t : Stage) → GoAlong r.formula.vars (start r.formula r.room) r.log t → (m : Finder) (base : ℕ)
      → NamesToo (fin.get t.present) m (map unsigned_abs k.hints) → NamesUnits m base us → IsAcceptedLine r.formula.vars m [] (map unsigned_abs (hints_behind base k))

-- what was shown over the one stays shown over the other
abbrev pub StaysShown : Refuting → Refuting → Type 0
StaysShown old new = (us : List ℤ) (k : Closing) → IsClosingOf old us k → IsClosingOf new us k

-- a closing, a model, or a budget that is exhausted
abbrev pub IsShown : Refuting → List ℤ → Steps → Shown → Type 0
IsShown r us after (Closed k) = IsClosingOf r us k
IsShown r us after (Model b) = IsModel (with_units r.formula us).vars (with_units r.formula us).clauses [] b.items
IsShown r us after Spent = after.left ≡ 0

-- the section of a closing: one line, behind lemmas of which top is the greatest id and units that have the next ids
abbrev pub section_of : ℕ → List ℤ → Closing → List Line
section_of top us k = Add (top + length us + 1) [] (hints_behind top k) ∷ []

-- the lines follow from the formula, none is the empty clause, their greatest id is one of those that are taken, and over what they lead to the section of each closing is accepted, with
-- the units that it was shown for
pub record AreLemmas (r : Refuting) (ks : List Closing) (l : Lemmas) : Type 0 where
  pub in_limits : All IsLine l.proof
  pub reached : Stage
  pub extends : Extends r.formula.vars (first_stage r.formula) l.proof reached
  pub top : reached.top ≡ l.top
  pub counted : l.top ≤ l.taken.ids
  pub sections : All (λ k. (us : List ℤ) → IsClosingOf r us k → IsAcceptedOver (base_at r.formula.vars reached) us (section_of l.top us k)) ks
