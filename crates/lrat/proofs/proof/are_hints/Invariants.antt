use Rattle.std.proofs.Common.{take, All}
use Rattle.lrat.specs.Limits.{IsHint}
use Rattle.lrat.proofs.proof.are_hints.Given as goal

abbrev pub invariant-loop-hint : goal.invariant-loop-hint
invariant-loop-hint l = All IsHint (take l.hint-index l.hints)
