use Rattle.std.proofs.Common.{◌≡◌, take}
use Rattle.ic3_step.specs.Queries.{ands_in}
use Rattle.ic3_step.proofs.part_gates.PartGates.gates_of.Given as goal

abbrev pub invariant-loop-variable : goal.invariant-loop-variable
invariant-loop-variable l = l.gates.items ≡ ands_in l.self (take l.variable-index l.list)
