use Rattle.std.proofs.Common.{◌≡◌, ◌-◌, ◌++◌, length}
use Rattle.base.specs.Devices.{Reads}
use Rattle.scan.specs.Lists.{many_at}
use Rattle.certificate.specs.Streams.{StillReads}
use Rattle.certificate3.specs.Reading.{latch_at}
use Rattle.certificate3.proofs.streaming.read_latches.Given as goal

abbrev pub invariant-loop : goal.invariant-loop
invariant-loop g l = record {
  steady : g.S.Source.failed l.from ≡ g.S.Source.failed l.fn.from;
  many : length l.latches ≡ l.counter;
  reads : Reads (g.S.Source.leaves l.fn.from) (g.S.Source.leaves l.from) (λ ys zs. StillReads (many_at latch_at l.count (l.fn.reader.held ++ ys)) l.latches (many_at latch_at (l.count - l.counter)) l.reader.held zs);
}
