use Rattle.cnf.proofs.Frames.{gates_in_range}
use Rattle.cnf.proofs.CaseLaws.{constraints_in_range}
use Rattle.cnf.proofs.unrolling.push_time.Goals as goal

pub push_gates-requires-clause-in_range : goal.push_gates-requires-clause-in_range
push_gates-requires-clause-in_range g c = rw (c.gates.ensures, c.requires.max_var) (gates_in_range c.args.circuit.now c.well_formed-2.ensures)

pub push_constraints-requires-clause-in_range : goal.push_constraints-requires-clause-in_range
push_constraints-requires-clause-in_range g c = rw (c.constraints.ensures, c.requires.max_var) (constraints_in_range c.args.circuit.now c.well_formed-2.ensures)
