use Rattle.std.proofs.Common.{◌≤◌, ◌<◌, All, length, take}
use Rattle.certificate.proofs.limits.are_short.Given as goal

abbrev pub invariant-loop-clause : goal.invariant-loop-clause
invariant-loop-clause l = record {
  short : All (λ clause. length clause ≤ 4194303) (take l.clause-index l.clauses);
  small : All (All (λ a. a.0 < 4294967296)) (take l.clause-index l.clauses);
}
