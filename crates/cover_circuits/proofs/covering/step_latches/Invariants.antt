use Rattle.std.proofs.Common.{◌≡◌}
use Rattle.cover_circuits.specs.Covering.{step_latches}
use Rattle.cover_circuits.proofs.covering.step_latches.Given as goal

abbrev pub invariant-loop-step : goal.invariant-loop-step
invariant-loop-step l = l.latches.items ≡ step_latches l.first l.step
