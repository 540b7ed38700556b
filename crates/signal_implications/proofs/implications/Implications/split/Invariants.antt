use Rattle.std.proofs.Common.{◌≡◌}
use Rattle.signal_implications.proofs.implications.Implications.split.Given as goal

abbrev pub invariant-loop-place : goal.invariant-loop-place
invariant-loop-place l = record {
  list : l.self.list ≡ l.initial.self.list;
  used : l.self.used ≡ l.initial.self.used;
}
