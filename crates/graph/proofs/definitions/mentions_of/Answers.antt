use Rattle.std.proofs.Common.{[], ◌+◌, length, drop, arith}
use Rattle.graph.proofs.Tabled.{marked_none, take_whole}
use Rattle.graph.proofs.definitions.mentions_of.Goals as goal

pub returns-clause-marked : goal.returns-clause-marked
returns-clause-marked c =
    rw (take_whole c.in_ok-table.table.len c.mention_all.new.table (drop (length c.mention_all.new.table) c.in_ok-table.table.items) (omega arith))
    (c.mention_all.ensures.marks [] (rw (c.deref_mut.ensures.value, c.in_ok-table.ensures) (marked_none (c.args.parts.now.max_var + 1))))
