use Rattle.std.proofs.Common.{subst}
use Rattle.ic3_blocking.specs.Answers.{IsRelative}
use Rattle.ic3_blocking.proofs.Inductions.{onward_by}
use Rattle.ic3_blocking.proofs.frame_solver.FrameSolver.is_onward.Goals as goal

pub returns-in-Held-clause-onward : goal.returns-in-Held-clause-onward
returns-in-Held-clause-onward g c = λ same.
    let m = c.args.circuit.now in
    let es = c.args.frames.now.entries in
    let k = c.args.level in
    let clause = c.args.clause.now in
    let after = c.relative.new.budget in
    onward_by m es k c.in-Held.field-0 clause after (subst (IsRelative m es k clause after) c.in-Held.is c.in_ok-relative.ensures.lawful)
