use Rattle.truth_tables.proofs.Tabled.{value_selected}
use Rattle.truth_tables.proofs.table.selected.Goals as goal

pub returns : goal.returns
returns c = value_selected c.args.selector c.args.high c.args.low c.ranges.selector.fits
