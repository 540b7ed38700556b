use Rattle.std.proofs.Common.{take}
use Rattle.bmc.specs.Lines.{AreLines}
use Rattle.bmc.proofs.reading.lines.Given as goal

abbrev pub invariant-loop-first : goal.invariant-loop-first
invariant-loop-first l = AreLines l.circuit l.cone l.values (take l.first-index l.firsts) l.lines
