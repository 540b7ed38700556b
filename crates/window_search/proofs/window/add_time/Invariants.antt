use Rattle.std.proofs.Common.{◌≡◌}
use Rattle.window_search.proofs.window.add_time.Given as goal

abbrev pub invariant-adding : goal.invariant-adding
invariant-adding g l = g.S.Sat.vars l.solver ≡ g.S.Sat.vars l.initial.solver
