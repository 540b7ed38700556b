use Rattle.simulate.proofs.LaneLaws.{value_in-all}
use Rattle.simulate.proofs.lanes.all.Goals as goal

pub returns : goal.returns
returns c r r_in = value_in-all c.args.value c.word.result r c.word.ensures r_in
