use Rattle.std.proofs.Common.{map, take}
use Rattle.graph.specs.Circuits.{variable}
use Rattle.graph.specs.Tables.{StaysCounted}
use Rattle.graph.proofs.definitions.define_inputs.Given as goal

abbrev pub invariant-loop-lit : goal.invariant-loop-lit
invariant-loop-lit l = StaysCounted l.initial.table l.table (map variable (take l.lit-index l.inputs))
