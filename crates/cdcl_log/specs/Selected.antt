-- The line that ends a proof.
use Rattle.std.specs.Prelude.{◌≡◌, ◌<◌, ℕ, ℤ, List, [], All, unsigned_abs}
use Rattle.lrat.specs.Limits.{IsLine}
use Rattle.lrat.specs.declared.line.Line.{Line}
use Rattle.lrat.specs.declared.line.Line.TheVariants.{Add, Delete}

-- the line adds the empty clause by hints of ids below n
abbrev pub IsClosing : ℕ → Line → Type 0
IsClosing n l = (id : ℕ) × (hints : List ℤ) × (l ≡ Add id [] hints) × IsLine l × All (λ h. unsigned_abs h < n) hints

-- a line that wants others, which no proof keeps
abbrev pub wanting : List ℤ → Line
wanting hints = Add 1 [] hints

-- the line adds a clause
abbrev pub IsAddition : Line → Type 0
IsAddition (Add id c hints) = Unit {0}
IsAddition (Delete id ids) = ⊥
