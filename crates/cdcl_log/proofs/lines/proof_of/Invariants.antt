use Rattle.std.proofs.Common.{◌≡◌}
use Rattle.cdcl_log.proofs.lines.proof_of.Given as goal

abbrev pub invariant-loop-line : goal.invariant-loop-line
invariant-loop-line l = l.proof ≡ l.yielded
