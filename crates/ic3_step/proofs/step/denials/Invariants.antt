use Rattle.std.proofs.Common.{◌≡◌, map, take}
use Rattle.ic3_step.specs.Steps.{denial}
use Rattle.ic3_step.proofs.step.denials.Given as goal

abbrev pub invariant-denying : goal.invariant-denying
invariant-denying l = l.lits ≡ map (denial l.latches) (take l.lit-index l.clause)
