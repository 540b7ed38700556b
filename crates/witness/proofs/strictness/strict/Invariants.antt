use Rattle.std.proofs.Common.{All, take}
use Rattle.witness.specs.Strict.{IsDenied}
use Rattle.witness.proofs.strictness.strict.Given as goal

abbrev pub invariant-loop-property : goal.invariant-loop-property
invariant-loop-property l = All (IsDenied l.circuit l.loose) (take l.property-index l.asked)
