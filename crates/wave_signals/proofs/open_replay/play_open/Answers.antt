use Rattle.std.proofs.Common.{arith}
use Rattle.wave_signals.proofs.open_replay.play_open.Goals as goal

pub filled-requires-clause-few : goal.filled-requires-clause-few
filled-requires-clause-few c = omega (arith, c.well_formed-2.ensures.limits.max_var, c.max_var.ensures)
