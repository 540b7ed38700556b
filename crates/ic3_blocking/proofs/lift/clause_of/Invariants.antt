use Rattle.ic3_blocking.proofs.States.{DeniesBelow}
use Rattle.ic3_blocking.proofs.Lifted.{HasBelow}
use Rattle.ic3_blocking.proofs.lift.clause_of.Given as goal

abbrev pub invariant-denying : goal.invariant-denying
invariant-denying l = record {
  denies : DeniesBelow l.state l.i l.clause;
  has : HasBelow l.latches l.state l.marks l.i l.clause;
}
