use Rattle.std.proofs.Common.{◌≡◌, ◌+◌, ◌-◌, ◌++◌}
use Rattle.induction_windows.specs.Rows.{row_latches}
use Rattle.induction_windows.proofs.history.push_row.Given as goal

abbrev pub invariant-loop-index : goal.invariant-loop-index
invariant-loop-index l = l.to.items ++ row_latches (l.base + l.index) l.before (l.depth - l.index) ≡ l.initial.to.items ++ row_latches l.base l.fn.literal l.depth
