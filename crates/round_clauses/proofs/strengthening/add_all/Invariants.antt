use Rattle.std.proofs.Common.{◌≡◌}
use Rattle.round_clauses.proofs.strengthening.add_all.Given as goal

abbrev pub invariant-loop-clause : goal.invariant-loop-clause
invariant-loop-clause g l = g.S.Sat.vars l.solver ≡ g.S.Sat.vars l.initial.solver
