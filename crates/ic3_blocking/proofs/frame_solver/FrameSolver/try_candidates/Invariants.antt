use Rattle.std.proofs.Common.{◌≡◌}
use Rattle.base.specs.Budget.{Spends}
use Rattle.ic3_blocking.specs.Sound.{IsSound}
use Rattle.ic3_blocking.proofs.frame_solver.FrameSolver.try_candidates.Given as goal

abbrev pub invariant-trying : goal.invariant-trying
invariant-trying g l = record {
  spends : Spends l.initial.budget l.budget;
  top : l.frames.top ≡ l.initial.frames.top;
  sound : IsSound l.circuit l.self l.frames;
}
