use Rattle.ic3_blocking.proofs.Rising.{RisesBelow}
use Rattle.ic3_blocking.proofs.candidates.is_rising.Given as goal

abbrev pub invariant-comparing : goal.invariant-comparing
invariant-comparing l = RisesBelow l.clause l.lit-index l.next
