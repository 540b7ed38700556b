use Rattle.std.proofs.Common.{◌≡◌, ◌+◌, length}
use Rattle.base.specs.Budget.{Spends}
use Rattle.ic3_blocking.specs.Sound.{IsSound}
use Rattle.ic3_blocking.specs.Cubes.{IsReady}
use Rattle.ic3_blocking.specs.Queue.{AreQueued}
use Rattle.ic3_blocking.specs.Answers.{AreObligations}
use Rattle.ic3_blocking.proofs.frame_solver.FrameSolver.block_all.Given as goal

abbrev pub invariant-blocking : goal.invariant-blocking
invariant-blocking g l = record {
  spends : Spends l.initial.budget l.budget;
  top : l.frames.top ≡ l.initial.frames.top;
  sound : IsSound l.circuit l.self l.frames;
  ready : IsReady l.circuit l.lifting;
  obligations : AreObligations l.circuit l.obligations.found.items;
  frames : length l.obligations.queue.frames.items ≡ l.frames.top + 1;
  queued : AreQueued (length l.obligations.found.items) l.obligations.queue;
}

abbrev pub decreases-blocking : goal.decreases-blocking
decreases-blocking g l = l.budget.left
