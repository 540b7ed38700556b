-- Which line a buffer holds, and which line is lent.
use Rattle.std.specs.Prelude.{ℕ, ℤ, Bool, true, false, List}
use Rattle.lrat.specs.declared.line.Line.{Line}
use Rattle.lrat.specs.declared.line.Line.TheVariants.{Add, Delete}
use Rattle.lrat.specs.declared.line_ref.LineRef.{LineRef}
use Rattle.lrat.specs.declared.line_ref.LineRef.TheVariants.{Add as AddRef, Delete as DeleteRef}

-- a deletion of these ids, or an addition of this clause with these hints
abbrev pub held_line : Bool → ℕ → List ℤ → List ℤ → List ℕ → Line
held_line true id clause hints ids = Delete id ids
held_line false id clause hints ids = Add id clause hints

-- the line whose lists these are
abbrev pub lent_line : LineRef → Line
lent_line (AddRef id clause hints) = Add id clause.now hints.now
lent_line (DeleteRef id ids) = Delete id ids.now
