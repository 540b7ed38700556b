use Rattle.std.proofs.Common.{◌≡◌, map, take}
use Rattle.ic3_step.specs.Readings.{value_at}
use Rattle.ic3_step.proofs.reading.inputs_in.Given as goal

abbrev pub invariant-loop-lit : goal.invariant-loop-lit
invariant-loop-lit l = l.inputs ≡ map (value_at l.values) (take l.lit-index l.lit-items)
