use Rattle.truth_tables.proofs.Tabled.{value_and}
use Rattle.truth_tables.proofs.table.conjunction.Goals as goal

pub returns : goal.returns
returns c = value_and c.args.one c.args.other
