use Rattle.cnf.proofs.CaseLaws.{constraints_in_range}
use Rattle.cnf.proofs.rows.add_time.Goals as goal

pub push_constraints-requires-clause-in_range : goal.push_constraints-requires-clause-in_range
push_constraints-requires-clause-in_range c = rw (c.constraints.ensures, c.requires.max_var) (constraints_in_range c.args.circuit.now c.well_formed-2.ensures)
