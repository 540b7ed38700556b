use Rattle.std.proofs.Common.{◌≤◌, All, length, take}
use Rattle.certify.proofs.proving.most_literals.Given as goal

abbrev pub invariant-loop-clause : goal.invariant-loop-clause
invariant-loop-clause l = record {
  one : 1 ≤ l.most;
  few : l.most ≤ 4194303;
  all : All (λ c. length c ≤ l.most) (take l.clause-index l.invariant');
}
