use Rattle.std.proofs.Common.{◌≡◌, take}
use Rattle.simulate.specs.Lanes.{rows_of}
use Rattle.engine_random.proofs.rows.rows.Given as goal

abbrev pub invariant-loop-time : goal.invariant-loop-time
invariant-loop-time l = l.lines.items ≡ rows_of l.run (take l.time-index l.times)
