use Rattle.std.proofs.Common.{◌<◌, Bool, IsTrue}
use Rattle.truth_tables.specs.Tables.{row, value}
use Rattle.truth_tables.specs.Cubes.{IsPartly}
use Rattle.truth_tables.proofs.cover.cover_rest.Given as goal

abbrev pub invariant-loop-row : goal.invariant-loop-row
invariant-loop-row l = record {
  partly : IsPartly l.table l.covered l.cubes.items;
  rows : (a b c d : Bool) → row a b c d < l.row → IsTrue (value l.table a b c d) → IsTrue (value l.covered a b c d);
}
