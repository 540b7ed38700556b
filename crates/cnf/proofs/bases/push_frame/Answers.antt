use Rattle.cnf.proofs.Frames.{gates_in_range}
use Rattle.cnf.proofs.bases.push_frame.Goals as goal

pub push_gates-requires-clause-in_range : goal.push_gates-requires-clause-in_range
push_gates-requires-clause-in_range g c = rw (c.gates.ensures, c.first.ensures.max_var) (gates_in_range c.args.circuit.now c.well_formed-2.ensures)
