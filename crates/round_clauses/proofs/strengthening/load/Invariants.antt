use Rattle.std.proofs.Common.{◌≡◌, ◌+◌}
use Rattle.round_clauses.proofs.strengthening.load.Given as goal

abbrev pub invariant-loop-clause : goal.invariant-loop-clause
invariant-loop-clause g l = g.S.Sat.vars l.solver ≡ l.circuit.max_var + 1
