use Rattle.std.proofs.Common.{◌∙◌, ◌++◌, length, take, drop, arith}
use Rattle.graph.proofs.Tabled.{take_whole}
use Rattle.latch_map.proofs.Noted.{noted_values}
use Rattle.latch_map.proofs.noting.table_of.Goals as goal

pub returns : goal.returns
returns c =
    noted_values c.args.clauses.now c.as_mut_slice.result.now c.note_all.new.table
    (take c.in_ok-table.table.len (c.note_all.new.table ++ drop (length c.note_all.new.table) c.in_ok-table.table.items)) c.args.count
    (c.as_mut_slice.ensures.value ∙ c.in_ok-table.ensures)
    (take_whole c.in_ok-table.table.len c.note_all.new.table (drop (length c.note_all.new.table) c.in_ok-table.table.items) (omega arith)) c.in_ok-note_all.ensures
