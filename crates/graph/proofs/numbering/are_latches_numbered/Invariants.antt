use Rattle.std.proofs.Common.{map}
use Rattle.graph.proofs.Numbered.{IsNumberedTo}
use Rattle.graph.proofs.numbering.are_latches_numbered.Given as goal

abbrev pub invariant-loop-i : goal.invariant-loop-i
invariant-loop-i l = IsNumberedTo l.first (map (λ x. x.lit) l.latches) l.i
