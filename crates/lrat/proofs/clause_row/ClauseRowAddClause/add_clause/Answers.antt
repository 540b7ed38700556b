use Rattle.lrat.proofs.Rowed.{rows_list}
use Rattle.lrat.proofs.clause_row.ClauseRowAddClause.add_clause.Goals as goal

pub returns : goal.returns
returns c = rw (c.in_ok-push.ensures.ok, ← c.self.view_is) (rows_list c.self.inside.lists c.self.inside.runs.items c.args.clause.now c.self.invariant)
