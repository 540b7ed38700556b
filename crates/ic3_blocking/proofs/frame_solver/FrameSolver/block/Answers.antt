use Rattle.std.proofs.Common.{◌≡◌, ◌+◌, ◌-◌, arith, subst}
use Rattle.ic3_frames.specs.Frames.{InFrame}
use Rattle.ic3_blocking.specs.Answers.{IsInductiveAnswer}
use Rattle.ic3_blocking.proofs.frame_solver.FrameSolver.block.Goals as goal

pub learn-requires-clause-part : goal.learn-requires-clause-part
learn-requires-clause-part g c =
    let law = subst (IsInductiveAnswer c.args.circuit.now c.args.frames.now.entries (c.args.level - 1) c.args.clause.now c.inductive.new.budget) c.in-Held.is c.in_ok-part.ensures.lawful in
    law.1

pub returns-in_ok-learn-in-Held-clause-lawful : goal.returns-in_ok-learn-in-Held-clause-lawful
returns-in_ok-learn-in-Held-clause-lawful g c = λ pos s inside.
    let back : c.args.level ≡ c.args.level - 1 + 1 = omega (arith, pos) in
    c.in_ok-learn-in-Held.ensures.held s (subst (λ n. InFrame c.learn.new.frames.entries n s) back inside)
