use Rattle.ic3_step.proofs.Entered.{AreEntered}
use Rattle.ic3_step.proofs.part_gates.PartGates.new.Given as goal

abbrev pub invariant-loop-gate : goal.invariant-loop-gate
invariant-loop-gate l = AreEntered l.gate-items l.circuit.max_var l.entries.items l.gate-index
