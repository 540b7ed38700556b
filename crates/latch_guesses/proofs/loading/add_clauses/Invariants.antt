use Rattle.std.proofs.Common.{◌≡◌}
use Rattle.latch_guesses.proofs.loading.add_clauses.Given as goal

abbrev pub invariant-loop-clause : goal.invariant-loop-clause
invariant-loop-clause g l = g.S.Sat.vars l.solver ≡ g.S.Sat.vars l.initial.solver
