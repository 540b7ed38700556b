use Rattle.std.proofs.Common.{◌≤◌, ◌*◌, length, All}
use Rattle.correspondence.specs.Equal.{IsEquality}
use Rattle.correspondence.proofs.equalities.Equalities.of.Given as goal

abbrev pub invariant-loop-place : goal.invariant-loop-place
invariant-loop-place l = record {
  all : All (IsEquality l.circuit) l.equalities.clauses;
  few : length l.equalities.clauses ≤ 2 * l.place;
}
