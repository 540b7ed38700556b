-- Proofs, each of its own case.
use Rattle.std.specs.Prelude.{◌≡◌, ◌<◌, ℕ, List, All, length, get_or, ℤ}
use Rattle.lrat.specs.declared.formula.Formula.{Formula}
use Rattle.lrat.specs.declared.line.Line.{Line}
use Rattle.lrat.specs.Lemmas.{Extends, base_at}
use Rattle.lrat.specs.Limits.{IsLine}
use Rattle.lrat.specs.Proofs.{first_stage}
use Rattle.lrat.specs.Shared.{Base, base_of, IsAcceptedOver}
use Rattle.lrat.specs.Stages.{Stage}
use Rattle.cdcl_log.specs.Closings.{IsClosingOf, section_of}
use Rattle.cdcl_log.specs.Refuting.{Refuting}
use Rattle.cdcl_log.specs.declared.shown.Closing.{Closing}
use Rattle.checker2.specs.Accepted.{Case, RefuteBelow}
use Rattle.certify.specs.declared.closed_cases.ClosedCases.{ClosedCases}

-- the case of a formula's clauses and these units
abbrev pub case_over : Formula → List ℤ → Case
case_over f us = record { base = base_of f; units = us }

-- the case of a base and these units
abbrev pub case_with : Base → List ℤ → Case
case_with b us = record { base = b; units = us }

-- as many proofs as cases, each of the case at its place
pub record AreProofs (cs : List Case) (ps : List (List Line)) : Type 0 where
  pub count : length ps ≡ length cs
  pub each : RefuteBelow cs ps (length ps)

-- the first n closings are of the units at their places
abbrev pub CloseBelow : Refuting → List (List ℤ) → List Closing → ℕ → Type 0
CloseBelow r uss ks n = (i : ℕ) → i < n → (us : List ℤ) (k : Closing) → IsClosingOf r (get_or uss i us) (get_or ks i k)

-- for the units of each case what shows that nothing satisfies it
pub record AreClosed (s : ClosedCases) : Type 0 where
  pub count : length s.closings ≡ length s.units
  pub each : CloseBelow s.refuter s.units s.closings (length s.closings)

-- the lines follow from the formula, none is the empty clause, and they lead to the base
abbrev pub IsSharedBy : Formula → List Line → Base → Type 0
IsSharedBy f lemmas b = (t : Stage) × All IsLine lemmas × Extends f.vars (first_stage f) lemmas t × (b ≡ base_at f.vars t)

-- over the base the section of each case is accepted, behind lemmas of which top is the greatest id
abbrev pub AreSectionsOver : Base → ℕ → ClosedCases → Type 0
AreSectionsOver b top s = All (λ k. (us : List ℤ) → IsClosingOf s.refuter us k → IsAcceptedOver b us (section_of top us k)) s.closings
