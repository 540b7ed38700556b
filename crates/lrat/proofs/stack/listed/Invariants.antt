use Rattle.std.proofs.Common.{◌≡◌, take}
use Rattle.lrat.proofs.stack.listed.Given as goal

abbrev pub invariant-loop-clause : goal.invariant-loop-clause
invariant-loop-clause l = l.row ≡ take l.clause-index l.formula
