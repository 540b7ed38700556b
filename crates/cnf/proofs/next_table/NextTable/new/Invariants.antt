use Rattle.std.proofs.Common.{◌≡◌, ◌+◌, length, take}
use Rattle.cnf.specs.Tables.{IsTableOf}
use Rattle.cnf.proofs.next_table.NextTable.new.Given as goal

abbrev pub invariant-loop-latch : goal.invariant-loop-latch
invariant-loop-latch l = (length l.entries.items ≡ l.circuit.max_var + 1) × IsTableOf (take l.latch-index l.latch-items) l.entries.items
