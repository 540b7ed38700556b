use Rattle.std.proofs.Common.{All, take}
use Rattle.base.specs.Budget.{Spends}
use Rattle.solver.specs.Branches.{IsDenied}
use Rattle.solver.proofs.look.look_at_clauses.Given as goal

abbrev pub invariant-loop-clause : goal.invariant-loop-clause
invariant-loop-clause l = record {
  spends : Spends l.initial.budget l.budget;
  open_ : All (λ c. IsDenied l.values c → ⊥) (take l.clause-index l.clauses);
}
