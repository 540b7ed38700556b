use Rattle.std.proofs.Common.{◌≡◌, ◌++◌, List, ℕ, length}
use Rattle.std.specs.Io.KnownBytes.{Appends}
use Rattle.base.proofs.transfer.put_all.Given as goal

abbrev pub invariant-putting : goal.invariant-putting
invariant-putting g l =
    (g.W.Sink.failed l.out ≡ g.W.Sink.failed l.initial.out)
    × ((done : List ℕ) × (done ++ l.rest ≡ l.initial.rest) × Appends (g.W.Sink.contents l.initial.out) (g.W.Sink.contents l.out) done)

abbrev pub decreases-putting : goal.decreases-putting
decreases-putting g l = length l.rest
