-- What a line of a proof does to the clauses that are present.
use Rattle.std.specs.Prelude.{◌≡◌, ℕ, ◌<◌, Bool, true, false, List, [], ◌∷◌, map, All, ℤ, pos, negsuc, unsigned_abs, IsSome}
use Rattle.std.specs.FinMap as fin
use Rattle.lrat.specs.Store.{ById}
use Rattle.lrat.specs.Lines.{IsAcceptedLine}
use Rattle.lrat.specs.declared.line.Line.{Line}
use Rattle.lrat.specs.declared.line.Line.TheVariants.{Add, Delete}

-- the clauses that are present, the greatest id that was ever present, and whether the empty clause came
pub record Stage : Type 0 where
  pub present : ById
  pub top : ℕ
  pub closed : Bool

-- the ids are taken out one after the other, each present until then
abbrev pub TakesOut : ById → List ℕ → ById → Type 0
TakesOut m [] n = n ≡ m
TakesOut m (id ∷ ids) n = IsSome (fin.get m id) × TakesOut (fin.remove m id) ids n

-- whether the clause has no literal
abbrev pub is_nil : List ℤ → Bool
is_nil [] = true
is_nil (l ∷ c) = false

-- a positive number
abbrev pub IsPositive : ℤ → Type 0
IsPositive (pos n) = 0 < n
IsPositive (negsuc n) = ⊥

-- a line leads from one stage to the next, over the variables 1 to n
abbrev pub Goes : ℕ → Stage → Line → Stage → Type 0
Goes n s (Add id c hints) t = (s.closed ≡ false) × (s.top < id) × All IsPositive hints
    × IsAcceptedLine n (fin.get s.present) c (map unsigned_abs hints)
    × (t ≡ record { present = fin.insert s.present id c; top = id; closed = is_nil c })
Goes n s (Delete id ids) t = (s.closed ≡ false) × (t.top ≡ s.top) × (t.closed ≡ false) × TakesOut s.present ids t.present

-- lines in turn
abbrev pub GoAlong : ℕ → Stage → List Line → Stage → Type 0
GoAlong n s [] t = t ≡ s
GoAlong n s (l ∷ ls) t = (u : Stage) × Goes n s l u × GoAlong n u ls t
