use Rattle.latch_map.proofs.Tables.{other_partner}
use Rattle.latch_map.proofs.table.partner.Goals as goal

pub returns-in-Some : goal.returns-in-Some
returns-in-Some c =
    other_partner c.args.table.now c.args.others.now c.args.latch c.root-root.result c.in-Some.other c.negated_as.result c.variable-2.result c.entry.result
    c.variable-2.ensures c.entry.ensures c.in-Some.is c.negated_as.ensures c.root-root.ensures
