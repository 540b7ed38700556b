use Rattle.truth_tables.proofs.Cubed.{side_of_set, side_of_clear}
use Rattle.truth_tables.proofs.cube.Side.in_row.Goals as goal

pub returns-then-row-input-eq1 : goal.returns-then-row-input-eq1
returns-then-row-input-eq1 c = side_of_set c.args.row c.args.input c.if-row-input-eq1.true

pub returns-else-row-input-eq1 : goal.returns-else-row-input-eq1
returns-else-row-input-eq1 c = side_of_clear c.args.row c.args.input c.if-row-input-eq1.false
