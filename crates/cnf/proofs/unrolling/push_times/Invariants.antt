use Rattle.std.proofs.Common.{◌≡◌, ◌≤◌, ◌*◌, ◌-◌, ◌++◌}
use Rattle.cnf.specs.Unrolled.{times_from}
use Rattle.cnf.proofs.unrolling.push_times.Given as goal

abbrev pub invariant-loop-step : goal.invariant-loop-step
invariant-loop-step g l = record {
  max_var : l.time.max_var ≡ l.circuit.max_var;
  low : l.time.offset ≤ l._step * 4194304;
  left : g.C.AddClause.clauses l.clauses ++ times_from l.circuit (l.steps - l._step) l.time.offset ≡ g.C.AddClause.clauses l.initial.clauses ++ times_from l.circuit l.steps 0;
}
