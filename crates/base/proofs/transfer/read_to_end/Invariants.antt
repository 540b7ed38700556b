use Rattle.std.proofs.Common.{◌≡◌}
use Rattle.base.specs.Devices.{Moves}
use Rattle.base.proofs.transfer.read_to_end.Given as goal

abbrev pub invariant-reading : goal.invariant-reading
invariant-reading g l = record {
  steady : g.S.Source.failed l.source ≡ g.S.Source.failed l.fn.source;
  bytes : Moves (g.S.Source.leaves l.fn.source) (g.S.Source.leaves l.source) l.bytes.items;
}

abbrev pub decreases-reading : goal.decreases-reading
decreases-reading g l = g.S.Source.most l.source
