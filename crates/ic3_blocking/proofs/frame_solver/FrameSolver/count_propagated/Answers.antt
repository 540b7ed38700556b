use Rattle.std.proofs.Common.{rules, ◌≤◌}
use Rattle.ic3_blocking.proofs.Guarding.{has_counted}
use Rattle.ic3_blocking.proofs.frame_solver.FrameSolver.count_propagated.Goals as goal

pub returns-clause-has : goal.returns-clause-has
returns-clause-has g c = λ m entries has.
    let a = c.args.self.now in
    let room = has.fits in
    let later : a.next ≤ c.min-self.result = search rules in
    let fits : c.min-self.result ≤ a.room = search rules in
    has_counted m entries a c.min-self.result has later fits
