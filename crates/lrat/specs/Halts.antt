-- Why a line of a proof leads on from no stage.
use Rattle.std.specs.Prelude.{◌≡◌, ℕ, ◌<◌, ◌≤◌, true, false, List, ◌∷◌, ◌++◌, map, All, None, unsigned_abs}
use Rattle.std.specs.FinMap as fin
use Rattle.lrat.specs.Store.{ById}
use Rattle.lrat.specs.Refusals.{IsRefusedLine}
use Rattle.lrat.specs.Stages.{Stage, TakesOut, IsPositive}
use Rattle.lrat.specs.declared.line.Line.{Line}
use Rattle.lrat.specs.declared.line.Line.TheVariants.{Add, Delete}
use Rattle.lrat.specs.declared.fault.Fault.{Fault}
use Rattle.lrat.specs.declared.fault.Fault.TheVariants.{OutOfMemory, AfterEmpty, IdOrder, NegativeHint, UnknownId}

-- the ids are taken out up to one that is absent then
pub record LacksOne (m : ById) (ids : List ℕ) : Type 0 where
  pub done : List ℕ
  pub id : ℕ
  pub later : List ℕ
  pub reached : ById
  pub are : ids ≡ done ++ id ∷ later
  pub takes : TakesOut m done reached
  pub absent : fin.get reached id ≡ None

-- the first cause of each refusal of a line: one after the empty clause, then the id, then hints
-- that are negative, and then those of the clause with its hints
abbrev pub Halts : ℕ → Stage → Line → Fault → Type 0
Halts n s l (OutOfMemory refused) = Unit {0}
Halts n s l AfterEmpty = s.closed ≡ true
Halts n s (Add id c hints) IdOrder = (s.closed ≡ false) × (id ≤ s.top)
Halts n s (Add id c hints) NegativeHint = (s.closed ≡ false) × (s.top < id) × (All IsPositive hints → ⊥)
Halts n s (Add id c hints) e = (s.closed ≡ false) × (s.top < id) × All IsPositive hints
    × IsRefusedLine n (fin.get s.present) c (map unsigned_abs hints) e
Halts n s (Delete id ids) UnknownId = (s.closed ≡ false) × LacksOne s.present ids
Halts n s (Delete id ids) e = ⊥
