use Rattle.truth_tables.proofs.Cubed.{part_fourth}
use Rattle.truth_tables.proofs.cube.Cube.without_fourth.Goals as goal

pub returns : goal.returns
returns c = part_fourth c.args.self
