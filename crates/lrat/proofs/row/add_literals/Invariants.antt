use Rattle.std.proofs.Common.{◌≡◌, ◌++◌, take}
use Rattle.lrat.proofs.row.add_literals.Given as goal

abbrev pub invariant-loop-literal : goal.invariant-loop-literal
invariant-loop-literal l = l.to.items ≡ l.initial.to.items ++ take l.literal-index l.clause
