use Rattle.std.proofs.Common.{take}
use Rattle.states.specs.States.{IsPartOf}
use Rattle.ic3_step.specs.Steps.{HasNeeded}
use Rattle.ic3_step.proofs.step.needed.Given as goal

abbrev pub invariant-choosing : goal.invariant-choosing
invariant-choosing l = record { part : IsPartOf l.part (take l.lit-index l.clause); all : HasNeeded l.latches (take l.lit-index l.clause) l.core l.part }
