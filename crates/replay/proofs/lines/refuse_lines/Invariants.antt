use Rattle.std.proofs.Common.{◌≡◌, ◌+◌, ◌++◌, Bool, List, length}
use Rattle.base.specs.Devices.{Reads}
use Rattle.scan.specs.Lists.{items_at}
use Rattle.stimulus.specs.Reading.{line_at}
use Rattle.replay.specs.Streams.{StillReads}
use Rattle.replay.specs.Found.{AreOfLengths}
use Rattle.replay.proofs.lines.refuse_lines.Given as goal

abbrev pub invariant-measuring : goal.invariant-measuring
invariant-measuring g l = record {
  steady : g.S.Source.failed l.from ≡ g.S.Source.failed l.fn.from;
  reads : Reads (g.S.Source.leaves l.fn.from) (g.S.Source.leaves l.from) (λ ys zs. (front : List (List Bool)) → AreOfLengths l.fn.long front l.fn.before → (more : List (List Bool)) × AreOfLengths l.fn.long (front ++ more) l.lengths × StillReads (items_at line_at (l.fn.reader ++ ys)) more (items_at line_at) l.reader zs);
}

abbrev pub decreases-measuring : goal.decreases-measuring
decreases-measuring g l = length l.reader + g.S.Source.most l.from
