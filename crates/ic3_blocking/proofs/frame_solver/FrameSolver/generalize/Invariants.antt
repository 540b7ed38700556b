use Rattle.std.proofs.Common.{◌<◌, ℕ, get_or}
use Rattle.base.specs.Budget.{Spends}
use Rattle.states.specs.States.{IsPartOf}
use Rattle.ic3_blocking.specs.Sound.{IsSound}
use Rattle.ic3_blocking.specs.Answers.{IsInductiveFrom, IsTried}
use Rattle.ic3_blocking.proofs.frame_solver.FrameSolver.generalize.Given as goal

abbrev pub invariant-dropping : goal.invariant-dropping
invariant-dropping g l = record {
  spends : Spends l.initial.budget l.budget;
  sound : IsSound l.circuit l.self l.frames;
  inductive : IsInductiveFrom l.circuit l.frames.entries l.level l.kept;
  part : IsPartOf l.kept l.fn.clause;
  tried : (k : ℕ) → k < l.latch-index → IsTried l.circuit l.kept (get_or l.latch-items k 0) l.budget;
}
