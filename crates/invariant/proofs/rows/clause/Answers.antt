use Rattle.std.proofs.Common.{sym, ◌∙◌}
use Rattle.invariant.proofs.RowLoop.{row_dot}
use Rattle.invariant.proofs.rows.clause.Goals as goal

pub returns-then-begins_dot : goal.returns-then-begins_dot
returns-then-begins_dot c = row_dot c.args.columns.now c.args.text.now (sym c.begins_dot.ensures ∙ c.if-begins_dot.true)
