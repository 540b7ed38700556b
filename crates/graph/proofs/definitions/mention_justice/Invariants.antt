use Rattle.std.proofs.Common.{map, take}
use Rattle.graph.specs.Circuits.{variable, justice_literals}
use Rattle.graph.specs.Tables.{StaysMarked}
use Rattle.graph.proofs.definitions.mention_justice.Given as goal

abbrev pub invariant-loop-lits : goal.invariant-loop-lits
invariant-loop-lits l = StaysMarked l.initial.table l.table (map variable (justice_literals (take l.lits-index l.justice)))
