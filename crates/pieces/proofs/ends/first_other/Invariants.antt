use Rattle.std.proofs.Common.{take}
use Rattle.pieces.specs.Pieces.{GoesOn}
use Rattle.pieces.proofs.ends.first_other.Given as goal

abbrev pub invariant-loop-i : goal.invariant-loop-i
invariant-loop-i l = GoesOn (take l.i l.bytes)
