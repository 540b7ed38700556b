use Rattle.simulate.proofs.LaneLaws.{value_in-negated_if}
use Rattle.simulate.proofs.lanes.negated_if.Goals as goal

pub returns : goal.returns
returns c r r_in = value_in-negated_if c.args.lanes c.fits-lanes.0 c.args.is_negated c.word.result r c.word.ensures r_in
