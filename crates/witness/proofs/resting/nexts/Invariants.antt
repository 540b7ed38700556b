use Rattle.witness.proofs.NextLaws.{SayUpTo}
use Rattle.witness.proofs.resting.nexts.Given as goal

abbrev pub invariant-loop-position : goal.invariant-loop-position
invariant-loop-position l = SayUpTo l.fn.circuit l.later l.position l.nexts.items
