use Rattle.std.proofs.Common.{◌≡◌, take}
use Rattle.lrat.specs.Rows.{gate_count}
use Rattle.lrat.proofs.clause_row.count_gates.Given as goal

abbrev pub invariant-loop-run : goal.invariant-loop-run
invariant-loop-run l = l.count ≡ gate_count (take l.run-index l.runs)
