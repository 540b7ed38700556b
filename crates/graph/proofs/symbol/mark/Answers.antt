use Rattle.graph.proofs.Marking.{rows_of-set}
use Rattle.graph.proofs.symbol.mark.Goals as goal

pub returns : goal.returns
returns c = rows_of-set c.args.taken.now c.args.kind c.args.position _ c.requires.kinds
