use Rattle.cnf.proofs.CaseLaws.{constraints_in_range}
use Rattle.cnf.proofs.bases.push_constrained_frame.Goals as goal

pub push_constraints-requires-clause-in_range : goal.push_constraints-requires-clause-in_range
push_constraints-requires-clause-in_range g c = rw (c.constraints.ensures, c.first.ensures.max_var) (constraints_in_range c.args.circuit.now c.well_formed-2.ensures)
