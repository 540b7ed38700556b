use Rattle.std.proofs.Common.{◌≡◌, ◌++◌, take}
use Rattle.lrat.specs.Rows.{and_clauses}
use Rattle.lrat.proofs.clause_row.ClauseRowAddClause.add_gate.Given as goal

abbrev pub invariant-loop-index : goal.invariant-loop-index
invariant-loop-index l = l.self ≡ l.initial.self ++ take l.index (and_clauses l.gate)
