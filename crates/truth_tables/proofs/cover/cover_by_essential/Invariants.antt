use Rattle.truth_tables.specs.Cubes.{IsPartly}
use Rattle.truth_tables.proofs.cover.cover_by_essential.Given as goal

abbrev pub invariant-loop-row : goal.invariant-loop-row
invariant-loop-row l = IsPartly l.table l.covered l.cubes.items
