use Rattle.std.proofs.Common.{◌≡◌, map, length, take}
use Rattle.graph.specs.Symbols.{symbol_counts}
use Rattle.graph.specs.Taken.{rows_of, AreTaken}
use Rattle.graph.proofs.symbol.first_wrong.Given as goal

abbrev pub invariant-loop-i : goal.invariant-loop-i
invariant-loop-i l = record {
  taken : AreTaken (rows_of l.taken.items) (take l.i l.symbols);
  counts : map length (rows_of l.taken.items) ≡ symbol_counts l.parts;
}
