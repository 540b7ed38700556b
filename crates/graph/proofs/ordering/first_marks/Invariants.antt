use Rattle.std.proofs.Common.{◌≡◌, ◌+◌, length}
use Rattle.graph.proofs.Ended.{IsFirst}
use Rattle.graph.proofs.ordering.first_marks.Given as goal

abbrev pub invariant-loop-gate : goal.invariant-loop-gate
invariant-loop-gate l = record { long : length l.marks.items ≡ l.max_var + 1; first : IsFirst l.gates l.marks.items l.gate-index }
