use Rattle.sequential_cones.proofs.Over.{over_is}
use Rattle.sequential_cones.proofs.cone.is_over.Goals as goal

pub returns : goal.returns
returns c = over_is c.args.marks.now c.args.clause.now c.are_marked.result c.are_marked.ensures
