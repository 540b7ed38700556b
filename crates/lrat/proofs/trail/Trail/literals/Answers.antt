use Rattle.lrat.proofs.trail.Trail.literals.Goals as goal

pub returns-clause-apart : goal.returns-clause-apart
returns-clause-apart c = rw (← c.self.view_is) c.self.invariant.apart
