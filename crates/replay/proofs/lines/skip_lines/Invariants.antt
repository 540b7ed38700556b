use Rattle.std.proofs.Common.{◌≡◌, ◌+◌, ◌++◌, Bool, List, length}
use Rattle.base.specs.Devices.{Reads}
use Rattle.scan.specs.Lists.{items_at}
use Rattle.stimulus.specs.Reading.{line_at}
use Rattle.replay.specs.Streams.{StillReads}
use Rattle.replay.proofs.lines.skip_lines.Given as goal

abbrev pub invariant-skipping : goal.invariant-skipping
invariant-skipping g l = record {
  steady : g.S.Source.failed l.from ≡ g.S.Source.failed l.fn.from;
  reads : Reads (g.S.Source.leaves l.fn.from) (g.S.Source.leaves l.from) (λ ys zs. (front : List (List Bool)) × StillReads (items_at line_at (l.fn.reader ++ ys)) front (items_at line_at) l.reader zs);
}

abbrev pub decreases-skipping : goal.decreases-skipping
decreases-skipping g l = length l.reader + g.S.Source.most l.from
