use Rattle.lrat.proofs.Rowed.{rows_gates}
use Rattle.lrat.proofs.clause_row.ClauseRow.add_gates.Goals as goal

pub returns : goal.returns
returns c =
    rw (c.in_ok-push.ensures.items, ← c.self.view_is)
    (rows_gates c.self.inside.lists c.self.inside.runs.items (record { lists = c.len.result; gates = c.args.gates; shift = c.args.shift }) c.len.ensures c.self.invariant)
