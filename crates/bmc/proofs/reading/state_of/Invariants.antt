use Rattle.std.proofs.Common.{◌≡◌, map, take}
use Rattle.lrat.specs.Literals.{is_true}
use Rattle.solver.specs.Answers.{values}
use Rattle.bmc.proofs.reading.state_of.Given as goal

abbrev pub invariant-loop-literal : goal.invariant-loop-literal
invariant-loop-literal l = l.state ≡ map (is_true (values l.values)) (take l.literal-index l.literals)
