use Rattle.std.proofs.Common.{◌≡◌, ◌++◌, List, flat_map, length}
use Rattle.std.specs.Io.KnownBytes.{Appends}
use Rattle.aag.proofs.pieces.put_blocks.Given as goal

abbrev pub invariant-putting : goal.invariant-putting
invariant-putting g l =
    (g.W.Sink.failed l.out ≡ g.W.Sink.failed l.initial.out)
    × ((done : List _) × (done ++ l.rest ≡ l.initial.rest) × Appends (g.W.Sink.contents l.initial.out) (g.W.Sink.contents l.out) (flat_map g.P.ShortPiece.text done))

abbrev pub decreases-putting : goal.decreases-putting
decreases-putting g l = length l.rest
