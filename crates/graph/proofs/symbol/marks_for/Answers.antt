use Rattle.std.proofs.Common.{refl}
use Rattle.graph.specs.Symbols.{symbol_counts}
use Rattle.graph.proofs.Marking.{AreTaken-none}
use Rattle.graph.proofs.symbol.marks_for.Goals as goal

pub returns-clause-taken : goal.returns-clause-taken
returns-clause-taken c = AreTaken-none (symbol_counts c.args.parts.now) _ refl c.in_ok-taken.ensures
