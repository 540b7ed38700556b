use Rattle.std.proofs.Common.{[], ◌+◌, length, drop, arith}
use Rattle.graph.proofs.Tabled.{counted_none, take_whole}
use Rattle.graph.proofs.definitions.definitions_of.Goals as goal

pub returns-clause-counted : goal.returns-clause-counted
returns-clause-counted c =
    rw (take_whole c.in_ok-table.table.len c.define_all.new.table (drop (length c.define_all.new.table) c.in_ok-table.table.items) (omega arith))
    (c.define_all.ensures.counts [] (rw (c.deref_mut.ensures.value, c.in_ok-table.ensures) (counted_none (c.args.parts.now.max_var + 1))))
