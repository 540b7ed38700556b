use Rattle.std.proofs.Common.{◌≡◌, ◌+◌, ◌++◌, drop}
use Rattle.reset_functions.specs.Made.{all_gates_for, end_of, latches_for}
use Rattle.reset_functions.proofs.making.Making.of.Given as goal

abbrev pub invariant-loop-k : goal.invariant-loop-k
invariant-loop-k l = record {
  latches : l.making.latches.items ++ latches_for (drop l.k l.latches) (drop l.k l.resets) l.making.next ≡ latches_for l.latches l.resets (l.first + 1);
  gates : l.making.gates.items ++ all_gates_for l.first (drop l.k l.latches) (drop l.k l.resets) l.making.next ≡ l.gates ++ all_gates_for l.first l.latches l.resets (l.first + 1);
  next : end_of (drop l.k l.latches) (drop l.k l.resets) l.making.next ≡ end_of l.latches l.resets (l.first + 1);
}
