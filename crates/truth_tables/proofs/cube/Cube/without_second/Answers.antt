use Rattle.truth_tables.proofs.Cubed.{part_second}
use Rattle.truth_tables.proofs.cube.Cube.without_second.Goals as goal

pub returns : goal.returns
returns c = part_second c.args.self
