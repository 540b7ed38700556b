use Rattle.std.proofs.Common.{◌≡◌, ◌+◌, ◌-◌, ◌≤◌, length}
use Rattle.base.specs.Budget.{Spends}
use Rattle.graph.specs.declared.circuit.Property.TheVariants.{Bad}
use Rattle.engine.specs.Bounds.{IsUnsetFor}
use Rattle.unrolling.specs.Merged.{IsReady}
use Rattle.unrolling.specs.Times.{IsAt, HasRoom}
use Rattle.bmc.proofs.search.search_up_to.Given as goal

abbrev pub invariant-deepening : goal.invariant-deepening
invariant-deepening g l = record {
  small : g.S.Sat.vars l.solvers.times ≤ 2147483647;
  room : HasRoom l.cone (l.depth + 1 - l.steps) l.unrolling (g.S.Sat.vars l.solvers.times);
  at : IsAt l.circuit l.cone l.unrolling (g.S.Sat.clauses l.solvers.times);
  places : length l.unrolling.given.items ≡ g.S.Sat.vars l.solvers.times + 1;
  ready : IsReady l.unrolling.encoder l.solvers.sweeping.given.items (g.S.Sat.vars l.solvers.sweeping.solver) (g.S.Sat.clauses l.solvers.sweeping.solver) l.solvers.sweeping.representatives;
  times : length l.unrolling.firsts.items ≡ l.steps;
  spends : Spends l.initial.budget l.budget;
  unset : IsUnsetFor l.circuit (Bad 0) l.steps;
}
