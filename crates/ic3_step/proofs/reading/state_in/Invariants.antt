use Rattle.std.proofs.Common.{◌≡◌, map, take}
use Rattle.ic3_step.specs.Readings.{value_at}
use Rattle.ic3_step.proofs.reading.state_in.Given as goal

abbrev pub invariant-loop-latch : goal.invariant-loop-latch
invariant-loop-latch l = l.state ≡ map (λ x. value_at l.values x.lit) (take l.latch-index l.latch-items)
