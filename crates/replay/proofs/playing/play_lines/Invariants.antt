use Rattle.std.proofs.Common.{◌≡◌, ◌+◌, ◌++◌, Bool, List, IsTrue, length}
use Rattle.std.specs.Prelude.{IsSome}
use Rattle.base.specs.Devices.{Reads}
use Rattle.scan.specs.Lists.{items_at}
use Rattle.simulate.specs.Replays.{begun}
use Rattle.stimulus.specs.Reading.{line_at}
use Rattle.replay.specs.Found.{ArePlayed}
use Rattle.replay.specs.Streams.{StillReads}
use Rattle.replay.proofs.playing.play_lines.Given as goal

abbrev pub invariant-playing : goal.invariant-playing
invariant-playing g l = record {
  steady : g.S.Source.failed l.from ≡ g.S.Source.failed l.fn.from;
  circuit : l.replay.circuit ≡ l.fn.replay.circuit;
  stepped : IsTrue l.some → IsSome l.replay.now;
  reads : Reads (g.S.Source.leaves l.fn.from) (g.S.Source.leaves l.from) (λ ys zs. (initial : List Bool) → l.fn.replay ≡ begun l.fn.replay.circuit initial → (front : List (List Bool)) × ArePlayed l.fn.replay.circuit initial l.some l.replay front × StillReads (items_at line_at (l.fn.reader ++ ys)) front (items_at line_at) l.reader zs);
}

abbrev pub decreases-playing : goal.decreases-playing
decreases-playing g l = length l.reader + g.S.Source.most l.from
