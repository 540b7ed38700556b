use Rattle.std.proofs.Common.{◌≡◌, ◌+◌, ◌++◌, List, All, None, length}
use Rattle.base.specs.Devices.{Reads}
use Rattle.scan.specs.Lists.{items_at}
use Rattle.lrat.specs.declared.line.Line.{Line}
use Rattle.lrat.specs.Limits.{IsLine}
use Rattle.lrat.specs.Stages.{GoAlong}
use Rattle.certificate.specs.Reading.{item_at}
use Rattle.certificate.specs.Streams.{StillReads}
use Rattle.checker2.proofs.section_text.feed_lines.Given as goal

abbrev pub invariant-feeding : goal.invariant-feeding
invariant-feeding g l = record {
  steady : g.S.Source.failed l.from ≡ g.S.Source.failed l.fn.from;
  base : l.refuter.base ≡ l.fn.refuter.base;
  open_ : l.refuter.refusal ≡ None;
  reads : Reads (g.S.Source.leaves l.fn.from) (g.S.Source.leaves l.from) (λ ys zs. (front : List Line) × All IsLine front × GoAlong l.fn.refuter.base.vars l.fn.refuter.stage front l.refuter.stage × StillReads (items_at item_at (l.fn.reader.held ++ ys)) front (items_at item_at) l.reader.held zs);
}

abbrev pub decreases-feeding : goal.decreases-feeding
decreases-feeding g l = length l.reader.held + g.S.Source.most l.from
