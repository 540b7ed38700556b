use Rattle.graph.proofs.Numbered.{IsNumberedTo}
use Rattle.graph.proofs.numbering.are_inputs_numbered.Given as goal

abbrev pub invariant-loop-i : goal.invariant-loop-i
invariant-loop-i l = IsNumberedTo l.first l.inputs l.i
