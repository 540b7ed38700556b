use Rattle.latch_map.proofs.Tables.{rooted}
use Rattle.latch_map.proofs.table.root.Goals as goal

pub loop-preserved : goal.loop-preserved
loop-preserved c =
    rooted c.args.table.now c.args.lit c.loop.root c.in-Some.same c.negated_as-root.result c.variable.result c.entry.result
    c.variable.ensures c.entry.ensures c.in-Some.is c.negated_as-root.ensures c.loop.invariant
