-- Which ids lines hint.
use Rattle.std.specs.Prelude.{ℕ, Bool, List}
use Rattle.std.specs.List.{list_any}
use Rattle.lrat.specs.Trimming.{hints_id}
use Rattle.lrat.specs.declared.line.Line.{Line}

-- whether one of the lines hints an id
abbrev pub hinted : List Line → ℕ → Bool
hinted ls q = list_any (hints_id q) ls
