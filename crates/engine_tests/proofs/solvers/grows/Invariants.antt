use Rattle.std.proofs.Common.{◌≡◌}
use Rattle.engine_tests.proofs.solvers.grows.Given as goal

abbrev pub invariant-loop-list : goal.invariant-loop-list
invariant-loop-list g l = g.S.Sat.vars l.solver ≡ 3
