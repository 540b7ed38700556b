use Rattle.std.proofs.Common.{◌≡◌, ◌+◌}
use Rattle.certify3.proofs.examining.first_repeated.Given as goal

abbrev pub invariant-loop-k : goal.invariant-loop-k
invariant-loop-k l = l.trail.vars ≡ l.circuit.max_var + 1
