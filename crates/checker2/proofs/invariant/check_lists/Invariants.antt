use Rattle.std.proofs.Common.{◌≡◌, ◌+◌, ◌<◌, All, length, take}
use Rattle.checker2.specs.Accepted.{IsGood}
use Rattle.checker2.proofs.invariant.check_lists.Given as goal

abbrev pub invariant-loop-k : goal.invariant-loop-k
invariant-loop-k l = record {
  good : All (IsGood l.circuit) (take l.k l.fn.invariant);
  below : All (λ s. s < l.k + 1) l.seen.items;
  whole : length l.seen.items ≡ l.circuit.max_var + 1;
}
