use Rattle.truth_tables.proofs.Tabled.{value_of_set, value_of_clear}
use Rattle.truth_tables.proofs.table.constant.Goals as goal

pub returns-then-table-bit-eq1 : goal.returns-then-table-bit-eq1
returns-then-table-bit-eq1 c = value_of_set c.args.table c.args.bit c.if-table-bit-eq1.true

pub returns-else-table-bit-eq1 : goal.returns-else-table-bit-eq1
returns-else-table-bit-eq1 c = value_of_clear c.args.table c.args.bit c.if-table-bit-eq1.false
