use Rattle.std.proofs.Common.{◌<◌}
use Rattle.base.specs.Budget.{Spends}
use Rattle.unrolling.specs.Merged.{IsReady}
use Rattle.unrolling.proofs.sweeping.Sweeping.merge_up_to.Given as goal

abbrev pub invariant-loop-variable : goal.invariant-loop-variable
invariant-loop-variable g l = record {
  some : 0 < l.variable;
  spends : Spends l.initial.budget l.budget;
  ready : IsReady l.encoder l.self.given.items (g.S.Sat.vars l.self.solver) (g.S.Sat.clauses l.self.solver) l.self.representatives;
}
