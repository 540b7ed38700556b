use Rattle.std.proofs.Common.{take, All}
use Rattle.certificate3.specs.Texts.{AreHints}
use Rattle.certificate3.proofs.limits.are_hints.Given as goal

abbrev pub invariant-loop-k : goal.invariant-loop-k
invariant-loop-k l = All AreHints (take l.k l.hints)
