use Rattle.std.proofs.Common.{◌≡◌, take}
use Rattle.simulate.specs.Lanes.{row_of}
use Rattle.engine_random.proofs.rows.row.Given as goal

abbrev pub invariant-loop-each : goal.invariant-loop-each
invariant-loop-each l = l.values.items ≡ row_of l.run (take l.each-index l.lanes)
