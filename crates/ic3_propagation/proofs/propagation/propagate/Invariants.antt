use Rattle.std.proofs.Common.{◌≡◌}
use Rattle.base.specs.Budget.{Spends}
use Rattle.ic3_blocking.specs.Sound.{IsSound}
use Rattle.ic3_propagation.proofs.propagation.propagate.Given as goal

abbrev pub invariant-propagating : goal.invariant-propagating
invariant-propagating g l = record {
  spends : Spends l.initial.budget l.budget;
  top : l.frames.top ≡ l.initial.frames.top;
  sound : IsSound l.circuit l.solver l.frames;
}
