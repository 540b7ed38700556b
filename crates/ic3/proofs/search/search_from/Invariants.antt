use Rattle.base.specs.Budget.{Spends}
use Rattle.ic3_blocking.specs.Sound.{IsSound}
use Rattle.ic3_blocking.specs.Cubes.{IsReady}
use Rattle.ic3.proofs.search.search_from.Given as goal

abbrev pub invariant-searching : goal.invariant-searching
invariant-searching g l = record {
  spends : Spends l.initial.budget l.budget;
  sound : IsSound l.circuit l.solver l.frames;
  ready : IsReady l.circuit l.lifting;
}

abbrev pub decreases-searching : goal.decreases-searching
decreases-searching g l = l.budget.left
