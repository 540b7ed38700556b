use Rattle.std.proofs.Common.{take, IsTrue}
use Rattle.pieces.specs.Pieces.{GoesOn}
use Rattle.pieces.proofs.ends.are_inner.Given as goal

abbrev pub invariant-loop-byte : goal.invariant-loop-byte
invariant-loop-byte l = IsTrue l.are → GoesOn (take l.byte-index l.bytes)
