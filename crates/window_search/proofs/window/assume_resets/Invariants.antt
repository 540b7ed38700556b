use Rattle.std.proofs.Common.{All}
use Rattle.lrat.specs.Literals.{IsLiteral}
use Rattle.window_search.proofs.window.assume_resets.Given as goal

abbrev pub invariant-assuming : goal.invariant-assuming
invariant-assuming l = All (IsLiteral l.frames) l.assumed.items
