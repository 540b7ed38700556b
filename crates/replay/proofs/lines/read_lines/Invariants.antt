use Rattle.std.proofs.Common.{◌≡◌, ◌+◌, ◌++◌, length}
use Rattle.base.specs.Devices.{Reads}
use Rattle.scan.specs.Lists.{items_at}
use Rattle.stimulus.specs.Reading.{line_at}
use Rattle.replay.specs.Streams.{StillReads}
use Rattle.replay.proofs.lines.read_lines.Given as goal

abbrev pub invariant-reading : goal.invariant-reading
invariant-reading g l = record {
  steady : g.S.Source.failed l.from ≡ g.S.Source.failed l.fn.from;
  reads : Reads (g.S.Source.leaves l.fn.from) (g.S.Source.leaves l.from) (λ ys zs. StillReads (items_at line_at (l.fn.reader ++ ys)) l.lines.items (items_at line_at) l.reader zs);
}

abbrev pub decreases-reading : goal.decreases-reading
decreases-reading g l = length l.reader + g.S.Source.most l.from
