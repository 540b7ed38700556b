-- Which clause a look-up found.
use Rattle.std.specs.Prelude.{ℤ, List}
use Rattle.lrat.specs.declared.found_clause.FoundClause.{FoundClause}
use Rattle.lrat.specs.declared.found_clause.FoundClause.TheVariants.{Slice, Pair, Triple}

-- the literals in order
abbrev pub found_literals : FoundClause → List ℤ
found_literals (Slice c) = c.now
found_literals (Pair c) = c
found_literals (Triple c) = c
