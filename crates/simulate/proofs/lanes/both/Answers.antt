use Rattle.simulate.proofs.LaneLaws.{value_in-and}
use Rattle.simulate.proofs.lanes.both.Goals as goal

pub returns : goal.returns
returns c = value_in-and c.args.first c.args.second c.fits-first.0 c.fits-second.0
