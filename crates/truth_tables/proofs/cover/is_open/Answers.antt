use Rattle.truth_tables.proofs.Tabled.{value_at}
use Rattle.truth_tables.proofs.cover.is_open.Goals as goal

pub returns : goal.returns
returns c = λ a b p d at. value_at c.args.table c.args.covered c.args.row c.ranges.covered.fits a b p d at
