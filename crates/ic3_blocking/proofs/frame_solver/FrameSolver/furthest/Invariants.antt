use Rattle.std.proofs.Common.{◌+◌, ◌<◌, ◌≤◌, ◌≡◌}
use Rattle.base.specs.Budget.{Spends}
use Rattle.ic3_blocking.specs.Sound.{IsSound}
use Rattle.ic3_blocking.specs.Answers.{IsInductiveFrom}
use Rattle.ic3_blocking.proofs.frame_solver.FrameSolver.furthest.Given as goal

abbrev pub invariant-pushing : goal.invariant-pushing
invariant-pushing g l = record {
  entries : l.frames.entries ≡ l.initial.frames.entries;
  top : l.frames.top ≡ l.initial.frames.top;
  spends : Spends l.initial.budget l.budget;
  sound : IsSound l.circuit l.self l.frames;
  no_less : l.level ≤ l.last;
  next_is : l.next ≡ l.last + 1;
  below : l.last < l.frames.top;
  inductive : IsInductiveFrom l.circuit l.frames.entries l.last l.clause;
}
