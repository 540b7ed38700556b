use Rattle.std.proofs.Common.{◌≡◌}
use Rattle.ic3_blocking.specs.Sound.{HasFrames}
use Rattle.ic3_blocking.proofs.frame_solver.FrameSolver.add_all.Given as goal

abbrev pub invariant-adding : goal.invariant-adding
invariant-adding g l = record { levels : l.self.levels ≡ l.initial.self.levels; room : l.self.room ≡ l.initial.self.room; next : l.self.next ≡ l.initial.self.next; has : HasFrames l.circuit l.entries l.self }
