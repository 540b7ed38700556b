use Rattle.std.proofs.Common.{take}
use Rattle.lrat.specs.Marks.{IsUnmarked}
use Rattle.lrat.proofs.mark.unmark.Given as goal

abbrev pub invariant-loop-literal : goal.invariant-loop-literal
invariant-loop-literal l = IsUnmarked l.initial.marks.items l.marks.items (take l.literal-index l.literals)
