use Rattle.std.proofs.Common.{All}
use Rattle.lrat.specs.Literals.{IsLiteral}
use Rattle.window_search.proofs.resting.Question.add_times.Given as goal

abbrev pub invariant-adding : goal.invariant-adding
invariant-adding l = All (All (IsLiteral l.frames)) l.self.clauses
