use Rattle.std.proofs.Common.{◌≡◌, take}
use Rattle.ic3_step.specs.Readings.{core_lits}
use Rattle.ic3_step.proofs.reading.core_lits.Given as goal

abbrev pub invariant-loop-literal : goal.invariant-loop-literal
invariant-loop-literal l = l.lits ≡ core_lits l.circuit.max_var (take l.literal-index l.core)
