use Rattle.truth_tables.proofs.Cubed.{part_third}
use Rattle.truth_tables.proofs.cube.Cube.without_third.Goals as goal

pub returns : goal.returns
returns c = part_third c.args.self
