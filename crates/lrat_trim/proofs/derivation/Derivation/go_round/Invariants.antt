use Rattle.std.proofs.Common.{◌≡◌}
use Rattle.lrat_trim.proofs.derivation.Derivation.go_round.Given as goal

abbrev pub invariant-loop-id : goal.invariant-loop-id
invariant-loop-id l = l.trail.vars ≡ l.fn.trail.vars
