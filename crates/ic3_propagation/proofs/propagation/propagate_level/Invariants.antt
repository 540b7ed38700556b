use Rattle.std.proofs.Common.{◌≡◌, All, take}
use Rattle.base.specs.Budget.{Spends}
use Rattle.ic3_propagation.specs.Answers.{CannotPropagate}
use Rattle.ic3_blocking.specs.Sound.{IsSound}
use Rattle.ic3_propagation.proofs.propagation.propagate_level.Given as goal

abbrev pub invariant-propagating : goal.invariant-propagating
invariant-propagating g l = record {
  spends : Spends l.initial.budget l.budget;
  top : l.frames.top ≡ l.initial.frames.top;
  sound : IsSound l.circuit l.solver l.frames;
  passed : All (CannotPropagate l.circuit l.level l.budget) (take l.place l.frames.entries);
}

abbrev pub decreases-propagating : goal.decreases-propagating
decreases-propagating g l = l.budget.left
