use Rattle.std.proofs.Common.{◌≡◌, ◌-◌, ◌++◌, List}
use Rattle.base.specs.Devices.{Reads}
use Rattle.scan.specs.Lists.{many_at}
use Rattle.lrat.specs.declared.line.Line.{Line}
use Rattle.certificate.specs.Reading.{section_at}
use Rattle.certificate.specs.Streams.{StillReads, letter_of}
use Rattle.certificate.proofs.streaming.skip_sections.Given as goal

abbrev pub invariant-loop : goal.invariant-loop
invariant-loop g l = record {
  steady : g.S.Source.failed l.from ≡ g.S.Source.failed l.fn.from;
  reads : Reads (g.S.Source.leaves l.fn.from) (g.S.Source.leaves l.from) (λ ys zs. (front : List (List Line)) × StillReads (many_at (section_at (letter_of l.kind)) l.count (l.fn.reader.held ++ ys)) front (many_at (section_at (letter_of l.kind)) (l.count - l.counter)) l.reader.held zs);
}
