use Rattle.std.proofs.Common.{◌≡◌, take}
use Rattle.certify.proofs.certifying.copied.Given as goal

abbrev pub invariant-loop-clause : goal.invariant-loop-clause
invariant-loop-clause l = l.copy ≡ take l.clause-index l.invariant'
