use Rattle.std.proofs.Common.{map, take}
use Rattle.graph.specs.Circuits.{variable}
use Rattle.graph.specs.Tables.{StaysMarked}
use Rattle.graph.proofs.definitions.mention.Given as goal

abbrev pub invariant-loop-lit : goal.invariant-loop-lit
invariant-loop-lit l = StaysMarked l.initial.table l.table (map variable (take l.lit-index l.lits))
