use Rattle.cnf.proofs.Frames.{gates_in_range}
use Rattle.cnf.proofs.push.gates_of.Goals as goal

pub literals_of-requires-clause-in_range : goal.literals_of-requires-clause-in_range
literals_of-requires-clause-in_range c = rw (c.gates.ensures, c.first.ensures.max_var) (gates_in_range c.args.circuit.now c.well_formed-2.ensures)
