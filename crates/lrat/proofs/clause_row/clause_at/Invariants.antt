use Rattle.lrat.proofs.Rowed.{IsLeft}
use Rattle.lrat.proofs.clause_row.clause_at.Given as goal

abbrev pub invariant-loop-run : goal.invariant-loop-run
invariant-loop-run l = IsLeft l.lists l.runs l.index l.run-index l.left
