use Rattle.std.proofs.Common.{◌≡◌, ◌-◌, ◌++◌, ℕ, List}
use Rattle.base.specs.Devices.{Reads}
use Rattle.scan.specs.Lists.{many_at}
use Rattle.certificate.specs.Streams.{StillReads}
use Rattle.certificate3.specs.Reading.{hints_at}
use Rattle.certificate3.proofs.streaming.skip_hints.Given as goal

abbrev pub invariant-loop : goal.invariant-loop
invariant-loop g l = record {
  steady : g.S.Source.failed l.from ≡ g.S.Source.failed l.fn.from;
  reads : Reads (g.S.Source.leaves l.fn.from) (g.S.Source.leaves l.from) (λ ys zs. (front : List (List ℕ)) × StillReads (many_at hints_at l.count (l.fn.reader.held ++ ys)) front (many_at hints_at (l.count - l.counter)) l.reader.held zs);
}
