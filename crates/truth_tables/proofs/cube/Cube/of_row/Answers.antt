use Rattle.truth_tables.proofs.Cubed.{holds_at_row, only_at_row}
use Rattle.truth_tables.proofs.cube.Cube.of_row.Goals as goal

pub returns-clause-holds : goal.returns-clause-holds
returns-clause-holds c = holds_at_row c.args.row c.in_row.result c.in_row-2.result c.in_row-3.result c.in_row-4.result c.in_row.ensures c.in_row-2.ensures c.in_row-3.ensures c.in_row-4.ensures

pub returns-clause-only : goal.returns-clause-only
returns-clause-only c = only_at_row c.args.row c.requires c.in_row.result c.in_row-2.result c.in_row-3.result c.in_row-4.result c.in_row.ensures c.in_row-2.ensures c.in_row-3.ensures c.in_row-4.ensures
