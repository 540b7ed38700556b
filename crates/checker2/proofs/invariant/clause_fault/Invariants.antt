use Rattle.std.proofs.Common.{◌≡◌, ◌≤◌, All, length, map, take}
use Rattle.graph.specs.Circuits.{variable}
use Rattle.checker2.specs.Accepted.{IsGood}
use Rattle.checker2.proofs.Good.{IsSeen}
use Rattle.checker2.proofs.invariant.clause_fault.Given as goal

abbrev pub invariant-loop-i : goal.invariant-loop-i
invariant-loop-i l = record {
  good : IsGood l.circuit (take l.i l.clause);
  seen : IsSeen l.stamp (map variable (take l.i l.clause)) l.seen;
  most : All (λ s. s ≤ l.stamp) l.seen;
  whole : length l.seen ≡ length l.fn.seen;
}
