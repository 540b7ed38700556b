use Rattle.truth_tables.proofs.Cubed.{part_first}
use Rattle.truth_tables.proofs.cube.Cube.without_first.Goals as goal

pub returns : goal.returns
returns c = part_first c.args.self
