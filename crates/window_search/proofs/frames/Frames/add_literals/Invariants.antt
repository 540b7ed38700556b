use Rattle.std.proofs.Common.{All}
use Rattle.lrat.specs.Literals.{IsLiteral}
use Rattle.window_search.proofs.frames.Frames.add_literals.Given as goal

abbrev pub invariant-loop-lit : goal.invariant-loop-lit
invariant-loop-lit l = All (IsLiteral l.self) l.clause.items
