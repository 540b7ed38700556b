-- A table, row by row.
use Rattle.std.specs.Prelude.{◌≡◌, ℕ, Bool, List, Option}
use Rattle.std.specs.Io.KnownBytes.{Appends}
use Rattle.graph.specs.declared.parts.Parts.{Parts}
use Rattle.graph.specs.Circuits.{Valuation}
use Rattle.simulate.specs.Replays.{Replayed, Steps}
use Rattle.stimulus.specs.Shown.{IsReplay}
use Rattle.stimulus.specs.Courses.{IsPlayed}
use Rattle.stimulus.specs.Tables.{row_text, rows_text, table_text}

-- one line was stepped, and its row put
pub record PutsRow (m : Parts) (before after : Replayed) (line : List Bool) (t : ℕ) (old new : Option (List ℕ)) : Type 0 where
  pub steps : Steps before after line
  pub appends : Appends old new (row_text m t steps.now)

-- the first i lines were stepped, and their rows put
pub record PutsRows (m : Parts) (state : List Bool) (lines : List (List Bool)) (i : ℕ) (now : Replayed) (old new : Option (List ℕ)) : Type 0 where
  pub valuations : List Valuation
  pub played : IsPlayed m state lines i now valuations
  pub appends : Appends old new (rows_text m 0 valuations)

-- the table of the one replay was put
pub record PutsReplay (m : Parts) (initial : List Bool) (inputs : List (List Bool)) (old new : Option (List ℕ)) : Type 0 where
  pub replay : List Valuation
  pub replays : IsReplay m initial inputs replay
  pub only : (x : List Valuation) → IsReplay m initial inputs x → x ≡ replay
  pub appends : Appends old new (table_text m replay)
