use Rattle.truth_tables.proofs.Tabled.{value_not}
use Rattle.truth_tables.proofs.table.complement.Goals as goal

pub returns : goal.returns
returns c = value_not c.args.table c.ranges.table.fits
