use Rattle.std.proofs.Common.{◌≡◌, ◌+◌, ◌++◌, List, length}
use Rattle.base.specs.Devices.{Reads}
use Rattle.scan.specs.Lists.{items_at}
use Rattle.lrat.specs.declared.line.Line.{Line}
use Rattle.certificate.specs.Reading.{item_at}
use Rattle.certificate.specs.Streams.{StillReads}
use Rattle.certificate.proofs.streaming.skip_lines.Given as goal

abbrev pub invariant-skipping : goal.invariant-skipping
invariant-skipping g l = record {
  steady : g.S.Source.failed l.from ≡ g.S.Source.failed l.fn.from;
  reads : Reads (g.S.Source.leaves l.fn.from) (g.S.Source.leaves l.from) (λ ys zs. (front : List Line) × StillReads (items_at item_at (l.fn.reader.held ++ ys)) front (items_at item_at) l.reader.held zs);
}

abbrev pub decreases-skipping : goal.decreases-skipping
decreases-skipping g l = length l.reader.held + g.S.Source.most l.from
